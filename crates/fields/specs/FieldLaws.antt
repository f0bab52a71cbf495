-- A line, field by field: what is read of a field, and then of the rest, is read of the line.
use Rattle.std.specs.Prelude.{ℕ, ◌<◌, ◌≡◌, refl, List, Bool, drop, Ok, Err}
use Rattle.std.proofs.lemmas.Result.{err_from_is_err_and}
use Rattle.std.proofs.Math.Path.{sym}
use Rattle.std.proofs.Common.{◌∙◌}
use Rattle.table.specs.declared.Operand.{Operand}
use Rattle.text.specs.declared.Fault.{Fault}
use Rattle.text.specs.Number.{bytes}
use Rattle.text.specs.Value.{ValueKind, Of, number, operand, variable}
use Rattle.text.proofs.ValueLaws.{no}
use Rattle.text.specs.Line.{Line, end, field, Vals, Outcome, took, refused, onto, field_of, line}
use Rattle.text.specs.Format.{variable_of}
use Rattle.numbers.specs.Answer.{NumberAt, mapped}
use Rattle.numbers.specs.ValueLaws.{mapped_took, mapped_refused}
use Rattle.scan.specs.Place.{FeedAt}
use Rattle.words.specs.Answer.{FieldAt as WordAt}
use Rattle.operands.specs.Answer.{OperandAt, VariableAt}
use Rattle.lists.specs.Sets.{FieldAt as ListAt}
use Rattle.fields.specs.Answer.{Answer, LineAt, Fails}

-- the value that a place's field has, or its fault
abbrev FieldIs : List ℕ → (k : ValueKind) → List ℕ → ℕ → Of k → ℕ → Type 0
FieldIs key k s at v e = (l : ℕ) → field_of key k l (drop at s) ≡ took v l (drop e s)

abbrev FieldNot : List ℕ → ValueKind → List ℕ → ℕ → Fault → Type 0
FieldNot key k s at f = (l : ℕ) → field_of key k l (drop at s) ≡ refused f l

pub onto_onto : {A B C : Type 0} (o : Outcome A) (f : A → ℕ → List ℕ → Outcome B) (g : B → ℕ → List ℕ → Outcome C)
    → onto (onto o f) g ≡ onto o (λ v l r. onto (f v l r) g)
onto_onto (took v l r) f g = refl
onto_onto (refused f l) g h = refl

module _ {A : Type 0} {key : List ℕ} {k : ValueKind} {next : Of k → Line} {g : Vals (field key k next) → A} {s : List ℕ} {at : ℕ} where
  goes_on : {v : Of k} {e : ℕ} → FieldIs key k s at v e → {r : Answer A} → LineAt (next v) (λ w. g (v, w)) s e r → LineAt (field key k next) g s at r
  unfolding line
  goes_on {v} {e} m u = record {
    same = λ l. rw (m l) (u.same l ∙ sym (onto_onto (line (next v) l (drop e s)) (λ w k r. took (v, w) k r) (λ w k r. took (g w) k r)));
    within = u.within;
  }

  stops : {f : Fault} → FieldNot key k s at f → {r : Answer A} → Fails r f → LineAt (field key k next) g s at r
  unfolding line
  stops m {r} h = let p = err_from_is_err_and r h in rw (p.1, p.2) (record { same = λ l. rw (m l); within = tt })

pub onto_not : {A B C : Type 0} (o : Outcome A) (h : A → B) (g : A → C) {f : Fault} {l : ℕ} → onto o (λ w k r. took (h w) k r) ≡ refused f l
    → onto o (λ w k r. took (g w) k r) ≡ refused f l
onto_not (took a l s) h g e = no (cc)
onto_not (refused f l) h g e = cc

pub onto_stop : {A B : Type 0} (o : Outcome A) (h : A → B) {f : Fault} {l : ℕ} → onto o (λ w k r. took (h w) k r) ≡ refused f l → o ≡ refused f l
onto_stop (took a l s) h e = no (cc)
onto_stop (refused f l) h e = cc

pub onto_got : {A B : Type 0} (o : Outcome A) (h : A → B) {b : B} {l : ℕ} {s : List ℕ} → onto o (λ w k r. took (h w) k r) ≡ took b l s → (a : A) × (o ≡ took a l s) × (h a ≡ b)
onto_got (took a l s) h e = (a, cc, cc)
onto_got (refused f l) h e = no (cc)

-- a value that another stands for, as a set for a list
module _ {A B : Type 0} {key : List ℕ} {k : ValueKind} {next : Of k → Line} {g : Vals (field key k next) → A} {s : List ℕ} {at : ℕ} (h : Of k → B) where
  goes_by : {v : B} {e : ℕ} → ((l : ℕ) → mapped h (field_of key k l (drop at s)) ≡ took v l (drop e s)) → {r : Answer A}
      → ((x : Of k) → h x ≡ v → LineAt (next x) (λ w. g (x, w)) s e r) → LineAt (field key k next) g s at r
  unfolding line
  goes_by {v} {e} m u = record {
    same = λ l.
        let t = mapped_took h (field_of key k l (drop at s)) (sym (m l)) in
        rw t.1 ((u t.0 t.2).same l ∙ sym (onto_onto (line (next t.0) l (drop e s)) (λ w k r. took (t.0, w) k r) (λ w k r. took (g w) k r)));
    within = let t = mapped_took h (field_of key k 0 (drop at s)) (sym (m 0)) in (u t.0 t.2).within;
  }

-- ---- numbers
module _ {lo n : ℕ} {f : Fault} {key s : List ℕ} {at : ℕ} where
  module _ {v e : ℕ} (m : NumberAt lo n f key s at (Ok (v, e))) where
    pub number_below : v < n
    number_below = m.within.2

  module _ {A : Type 0} {next : ℕ → Line} {g : Vals (field key (number lo n f) next) → A} where
    pub number_next : {v e : ℕ} → NumberAt lo n f key s at (Ok (v, e)) → {o : Answer A} → LineAt (next v) (λ w. g (v, w)) s e o
        → LineAt (field key (number lo n f) next) g s at o
    number_next m u = goes_on {g = g} (λ l. sym (m.same l)) u

    pub number_stop : {x : Fault} → NumberAt lo n f key s at (Err x) → {r : Answer A} → Fails r x → LineAt (field key (number lo n f) next) g s at r
    number_stop m h = stops {g = g} (λ l. sym (m.same l)) h

-- ---- words: one of two, a node's kind, an operation
module _ {k : ValueKind} {key s : List ℕ} {at : ℕ} {A : Type 0} {next : Of k → Line} {g : Vals (field key k next) → A} where
  pub word_next : {v : Of k} {e : ℕ} → WordAt k key s at (Ok (v, e)) → {o : Answer A} → LineAt (next v) (λ w. g (v, w)) s e o → LineAt (field key k next) g s at o
  word_next m u = goes_on {g = g} (λ l. sym (m.same l)) u

  pub word_stop : {x : Fault} → WordAt k key s at (Err x) → {r : Answer A} → Fails r x → LineAt (field key k next) g s at r
  word_stop m h = stops {g = g} (λ l. sym (m.same l)) h

-- ---- an operand
module _ {n : ℕ} {key s : List ℕ} {at : ℕ} where
  module _ {A : Type 0} {next : Of (operand n) → Line} {g : Vals (field key (operand n) next) → A} where
    pub operand_next : {v : Operand} {e : ℕ} → OperandAt n key s at (Ok (v, e)) → {o : Answer A} → LineAt (next v) (λ w. g (v, w)) s e o
        → LineAt (field key (operand n) next) g s at o
    operand_next m u = goes_on {g = g} (λ l. sym (m.same l)) u

    pub operand_stop : {x : Fault} → OperandAt n key s at (Err x) → {r : Answer A} → Fails r x → LineAt (field key (operand n) next) g s at r
    operand_stop m h = stops {g = g} (λ l. sym (m.same l)) h

-- ---- a variable
module _ {c : Bool} {n : ℕ} {s : List ℕ} {at : ℕ} where
  module _ {A : Type 0} {next : Of (variable c n) → Line} {g : Vals (field (bytes " var=") (variable c n) next) → A} where
    pub variable_next : {v e : ℕ} → VariableAt c n s at (Ok (v, e)) → {o : Answer A}
        → ((x : Of (variable c n)) → variable_of x ≡ v → LineAt (next x) (λ w. g (x, w)) s e o)
        → LineAt (field (bytes " var=") (variable c n) next) g s at o
    variable_next m u = goes_by {g = g} variable_of (λ l. sym (m.same l)) u

    pub variable_stop : {x : Fault} → VariableAt c n s at (Err x) → {r : Answer A} → Fails r x → LineAt (field (bytes " var=") (variable c n) next) g s at r
    variable_stop m h = stops {g = g} (λ l. mapped_refused variable_of _ (m.same l)) h

-- ---- lists: what h makes of one, as a set or a call's variables
module _ {B : Type 0} {k : ValueKind} {h : Of k → B} {key s : List ℕ} {at : ℕ} {A : Type 0} {next : Of k → Line} {g : Vals (field key k next) → A} where
  pub list_next : {v : B} {e : ℕ} → ListAt k h key s at (Ok (v, e)) → {o : Answer A} → ((x : Of k) → h x ≡ v → LineAt (next x) (λ w. g (x, w)) s e o) → LineAt (field key k next) g s at o
  list_next m u = goes_by {g = g} h (λ l. sym (m.same l)) u

  pub list_stop : {x : Fault} → ListAt k h key s at (Err x) → {r : Answer A} → Fails r x → LineAt (field key k next) g s at r
  list_stop m u = stops {g = g} (λ l. mapped_refused h _ (m.same l)) u

-- ---- the end of a line
module _ {A : Type 0} {s : List ℕ} {at : ℕ} {g : Unit {0} → A} where
  pub feed_last : {e : ℕ} → FeedAt s at (Ok e) → {a : A} → a ≡ g tt → LineAt end g s at (Ok (a, e))
  unfolding line
  feed_last m p = record { same = λ l. rw (p, ← m.same l); within = m.within }

  pub feed_stop : {x : Fault} → FeedAt s at (Err x) → {r : Answer A} → Fails r x → LineAt end g s at r
  unfolding line
  feed_stop m {r} h = let p = err_from_is_err_and r h in rw (p.1, p.2) (record { same = λ l. rw (← m.same l); within = tt })
