-- Laws of the readers of words: each says what a step of the code shows.
use Rattle.std.specs.Prelude.{ℕ, zero, suc, ◌+◌, ◌-◌, ◌≤◌, ◌<◌, ◌≡◌, Bool, true, false, length, take, drop, get_or, Option as Maybe, Some, None, Ok, Err, ok_or}
use Rattle.std.proofs.Math.Path.{refl}
use Rattle.std.proofs.Common.{◌∙◌, ap, arith, add-one, drop-cons}
use mathlib.Core.List.{List, [], ◌∷◌}
use Rattle.std.proofs.Math.Option.{Option, none, some}
use Rattle.table.specs.declared.Op.{Op}
use Rattle.table.specs.declared.Op.TheVariants.{Add, Sub, And, Or, Xor, Shr, Lt, Eq}
use Rattle.text.specs.declared.Fault.{Fault}
use Rattle.text.specs.declared.Fault.TheVariants.{Form, Index}
use Rattle.text.specs.declared.NodeKind.{NodeKind}
use Rattle.text.specs.declared.NodeKind.TheVariants.{Start as start, Set as set_kind, Test as test, Read as read, Call as call, Wait as wait, Signal as signal, Send as send, Recv as recv, Assert as assert, Out as out, Return as return}
use Rattle.text.specs.Value.{ValueKind, Of, choice, kind, operation, kind_word, op_word, same, chosen, named, said, unsaid, unless, due_at, kind_fault, check, kinds, ops}
use Rattle.text.proofs.ValueLaws.{kind_said}
use Rattle.text.specs.Line.{run as count, stops}
use Rattle.scan.specs.Place.{AfterKey, quad_number, Bytes, QuadAt, ValueAt, TokenAt}
use Rattle.scan.specs.PlaceLaws.{quad_bytes, count_more, count_none, value_ends, value_within, token_within, field_found, field_refused}
use Rattle.words.specs.Answer.{told, verdict_of, FieldAt, ValueIn, KindIn, OpIn, WordTo, Stands}

-- ---- a word that four bytes show
step : (s : List ℕ) (i k : ℕ) → i < length s → k ≡ i + 1 → drop i s ≡ get_or s i 0 ∷ drop k s
step s i k h e = rw (e, add-one i) (drop-cons s i 0 h)

four_part : (s : List ℕ) (at : ℕ) → 4 ≤ length s - at → drop at s ≡ get_or s at 0 ∷ get_or s (at + 1) 0 ∷ get_or s (at + 2) 0 ∷ get_or s (at + 3) 0 ∷ drop (at + 4) s
four_part s at h =
    let p = step s at (at + 1) (omega arith) refl in
    let q = step s (at + 1) (at + 2) (omega arith) (omega arith) in
    let u = step s (at + 2) (at + 3) (omega arith) (omega arith) in
    let v = step s (at + 3) (at + 4) (omega arith) (omega arith) in
    p ∙ ap (λ (t : List ℕ). get_or s at 0 ∷ t) (q ∙ ap (λ (t : List ℕ). get_or s (at + 1) 0 ∷ t) (u ∙ ap (λ (t : List ℕ). get_or s (at + 2) 0 ∷ t) v))

module _ {s : List ℕ} {at : ℕ} (h : 4 ≤ length s - at) {a b c d : ℕ} (parts : drop at s ≡ a ∷ b ∷ c ∷ d ∷ drop (at + 4) s) where
  two_letters : c ≡ 32 → stops a ≡ false → stops b ≡ false → WordTo s at (at + 2) (a ∷ b ∷ [])
  two_letters q u v =
      let k : count (a ∷ b ∷ c ∷ d ∷ drop (at + 4) s) ≡ 2 = count_more a _ u ∙ ap suc (count_more b _ v ∙ ap suc (count_none c _ (rw q))) in
      let z : count (drop at s) ≡ 2 = ap count parts ∙ k in
      let n : at + 2 - at ≡ 2 = omega arith in
      record { run = record { same = omega (arith, z); from = omega arith; within = omega arith }; inside = omega arith; same = rw (n, parts) }

  three_letters : d ≡ 32 → stops a ≡ false → stops b ≡ false → stops c ≡ false → WordTo s at (at + 3) (a ∷ b ∷ c ∷ [])
  three_letters q u v t =
      let k : count (a ∷ b ∷ c ∷ d ∷ drop (at + 4) s) ≡ 3 =
      count_more a _ u ∙ ap suc (count_more b _ v ∙ ap suc (count_more c _ t ∙ ap suc (count_none d _ (rw q)))) in
      let z : count (drop at s) ≡ 3 = ap count parts ∙ k in
      let n : at + 3 - at ≡ 3 = omega arith in
      record { run = record { same = omega (arith, z); from = omega arith; within = omega arith }; inside = omega arith; same = rw (n, parts) }

  four_letters : 5 ≤ length s - at → get_or s (at + 4) 0 ≡ 32 → stops a ≡ false → stops b ≡ false → stops c ≡ false → stops d ≡ false
      → WordTo s at (at + 4) (a ∷ b ∷ c ∷ d ∷ [])
  four_letters l q u v t y =
      let f : drop (at + 4) s ≡ get_or s (at + 4) 0 ∷ drop (at + 5) s = step s (at + 4) (at + 5) (omega arith) (omega arith) in
      let j : count (drop (at + 4) s) ≡ 0 = ap count f ∙ count_none (get_or s (at + 4) 0) _ (rw q) in
      let k : count (a ∷ b ∷ c ∷ d ∷ drop (at + 4) s) ≡ 4 =
      count_more a _ u ∙ ap suc (count_more b _ v ∙ ap suc (count_more c _ t ∙ ap suc (count_more d _ y ∙ ap suc j))) in
      let z : count (drop at s) ≡ 4 = ap count parts ∙ k in
      let n : at + 4 - at ≡ 4 = omega arith in
      record { run = record { same = omega (arith, z); from = omega arith; within = omega arith }; inside = omega arith; same = rw (n, parts) }

module _ {s : List ℕ} {at r : ℕ} (m : QuadAt s at r) (h : 4 ≤ length s - at) {a b c d x : ℕ} (w : Bytes a b c d) (g : x ≡ quad_number a b c d) where
  parts : r ≡ x → drop at s ≡ a ∷ b ∷ c ∷ d ∷ drop (at + 4) s
  parts e = let z = quad_bytes m w (e ∙ g) in rw (z.0, z.1, z.2, z.3) (four_part s at h)

module _ {s : List ℕ} {at r : ℕ} (m : QuadAt s at r) (h : 4 ≤ length s - at) {a b c d x : ℕ} (w : Bytes a b c d) (g : x ≡ quad_number a b c d) (e : r ≡ x) where
  pub two_told : c ≡ 32 → stops a ≡ false → stops b ≡ false → WordTo s at (at + 2) (a ∷ b ∷ [])
  two_told = two_letters h (parts m h w g e)

  pub three_told : d ≡ 32 → stops a ≡ false → stops b ≡ false → stops c ≡ false → WordTo s at (at + 3) (a ∷ b ∷ c ∷ [])
  three_told = three_letters h (parts m h w g e)

  pub four_told : 5 ≤ length s - at → get_or s (at + 4) 0 ≡ 32 → stops a ≡ false → stops b ≡ false → stops c ≡ false → stops d ≡ false
      → WordTo s at (at + 4) (a ∷ b ∷ c ∷ d ∷ [])
  four_told = four_letters h (parts m h w g e)

-- ---- the first whose word bytes are
module _ {A : Type 0} (word : A → List ℕ) (a : A) (as' : List A) (t : List ℕ) {x : Bool} (p : x ≡ same (word a) t) where
  pub named_hit : x ≡ true → Some a ≡ told (named word (a ∷ as') t)
  unfolding named
  named_hit h = rw (← p, h)

  pub named_miss : {r : Maybe A} → x ≡ false → r ≡ told (named word as' t) → r ≡ told (named word (a ∷ as') t)
  unfolding named
  named_miss h d = rw (← p, h) d

pub named_none : {A : Type 0} (word : A → List ℕ) (t : List ℕ) → None ≡ told (named word [] t)
unfolding named
named_none word t = refl

pub ruleset named_laws = (named_hit, named_miss, named_none)

-- ---- from what bytes say to their place
told_some : {A : Type 0} (o : Option A) (f : Fault) {v : A} → Ok v ≡ ok_or (told o) f → o ≡ some v
told_some none f q = cc
told_some (some v) f q = cc

told_none : {A : Type 0} (o : Option A) (f : Fault) {g : Fault} → Err g ≡ ok_or (told o) f → (o ≡ none) × (g ≡ f)
told_none none f q = (refl, cc)
told_none (some v) f q = cc

module _ (k : ValueKind) {s : List ℕ} {at b e : ℕ} (m : ValueAt s at (Ok (b, e))) {o : Maybe (Of k)} (p : o ≡ told (said k (take (e - b) (drop b s)))) where
  pub value_told : {v : Of k} → Ok v ≡ ok_or o (unsaid k) → ValueIn k s at (Ok (v, e))
  value_told q = record { same = λ l. rw (told_some (said k (take (e - b) (drop b s))) (unsaid k) (rw p at q)) at (m.same k l); within = (value_within m).1 }

  pub value_untold : {f : Fault} → Err f ≡ ok_or o (unsaid k) → ValueIn k s at (Err f)
  value_untold q = let z = told_none (said k (take (e - b) (drop b s))) (unsaid k) (rw p at q) in record { same = λ l. rw (z.1) (rw (z.0) at (m.same k l)); within = tt }

-- ---- kinds and operations at a place
module _ {s : List ℕ} {at b e : ℕ} (m : ValueAt s at (Ok (b, e))) where
  module _ {o : Maybe NodeKind} (p : o ≡ told (named kind_word kinds (take (e - b) (drop b s)))) where
    pub kind_told : {k : NodeKind} → Ok k ≡ ok_or o Form → KindIn s at (Ok (k, e))
    unfolding said unsaid
    kind_told q = record { read = λ c j. value_told (kind c j) m p q }

    pub kind_untold : {f : Fault} → Err f ≡ ok_or o Form → KindIn s at (Err f)
    unfolding said unsaid
    kind_untold q = record { read = λ c j. value_untold (kind c j) m p q }

  module _ {o : Maybe Op} (p : o ≡ told (named op_word ops (take (e - b) (drop b s)))) where
    pub op_told : {v : Op} → Ok v ≡ ok_or o Form → OpIn s at (Ok (v, e))
    unfolding said unsaid
    op_told q = record { read = λ x. value_told (operation x) m p q }

    pub op_untold : {f : Fault} → Err f ≡ ok_or o Form → OpIn s at (Err f)
    unfolding said unsaid
    op_untold q = record { read = λ x. value_untold (operation x) m p q }

-- an operation is the first whose word its word is
op_said : (o : Op) → named op_word ops (op_word o) ≡ some o
unfolding named same
op_said Add = refl
op_said Sub = refl
op_said And = refl
op_said Or = refl
op_said Xor = refl
op_said Shr = refl
op_said Lt = refl
op_said Eq = refl

-- one whose word stands at a place
stands_value : (k : ValueKind) {s w : List ℕ} {at e : ℕ} {v : Of k} → WordTo s at e w → said k w ≡ some v → ValueIn k s at (Ok (v, e))
stands_value k {s} {w} {at} {e} {v} m q =
    let z : said k (take (e - at) (drop at s)) ≡ some v = rw m.same q in
    record { same = λ l. rw z at ((value_ends m.run m.inside).same k l); within = m.inside }

pub kind_stands : {s : List ℕ} {at : ℕ} {f : NodeKind × ℕ} → Stands kind_word s at (Some f) → KindIn s at (Ok f)
unfolding said
kind_stands {f = f} w = record { read = λ c j. stands_value (kind c j) w (kind_said f.0) }

pub op_stands : {s : List ℕ} {at : ℕ} {f : Op × ℕ} → Stands op_word s at (Some f) → OpIn s at (Ok f)
unfolding said
op_stands {f = f} w = record { read = λ x. stands_value (operation x) w (op_said f.0) }

-- ---- what is checked
pub check_start : (c : Bool) {j : ℕ} → j ≡ 0 → Ok tt ≡ verdict_of (kind_fault c j start)
unfolding same
check_start c h = rw h

pub check_start_late : (c : Bool) (j : ℕ) → (j ≡ 0 → ⊥) → Err Index ≡ verdict_of (kind_fault c j start)
unfolding same
check_start_late c zero h = absurd (h refl)
check_start_late c (suc j) h = refl

pub check_read : {c : Bool} (j : ℕ) → c ≡ true → Err Form ≡ verdict_of (kind_fault c j read)
unfolding same
check_read j h = rw h

-- any other kind, and a `read` in open form
module _ {k : NodeKind} {c : Bool} (n : k ≡ start → ⊥) (h : k ≡ read → c ≡ false) where
  check_other : (j : ℕ) → verdict_of (unless (due_at j false) Index) ≡ verdict_of (kind_fault c j k)
  unfolding same
  check_other j = go k n h
    where
      go : (k : NodeKind) → (k ≡ start → ⊥) → (k ≡ read → c ≡ false) → verdict_of (unless (due_at j false) Index) ≡ verdict_of (kind_fault c j k)
      go start n h = absurd (n refl)
      go set_kind n h = refl
      go test n h = refl
      go read n h = rw (h refl)
      go call n h = refl
      go wait n h = refl
      go signal n h = refl
      go send n h = refl
      go recv n h = refl
      go assert n h = refl
      go out n h = refl
      go return n h = refl

  pub check_first : {j : ℕ} → j ≡ 0 → Err Index ≡ verdict_of (kind_fault c j k)
  check_first {j} z = rw (← check_other j, z)

  pub check_later : (j : ℕ) → (j ≡ 0 → ⊥) → Ok tt ≡ verdict_of (kind_fault c j k)
  check_later zero z = absurd (z refl)
  check_later (suc j) z = check_other (suc j)

-- ---- a field
module _ {key s : List ℕ} {at b : ℕ} (a : AfterKey key s at (Ok b)) (k : ValueKind) where
  pub field_stops : {f : Fault} → ValueIn k s b (Err f) → FieldAt k key s at (Err f)
  field_stops m = record { same = λ l. m.same l ∙ field_found a k l; within = tt }

  module _ {v : Of k} {e : ℕ} (m : ValueIn k s b (Ok (v, e))) where
    checks : (o : Option Fault) → check k v ≡ o → {u : Unit {0}} → Ok u ≡ verdict_of o → FieldAt k key s at (Ok (v, e))
    checks none h q = record { same = λ l. rw h at (m.same l ∙ field_found a k l); within = m.within }
    checks (some f) h q = cc

    pub field_is : {u : Unit {0}} → Ok u ≡ verdict_of (check k v) → FieldAt k key s at (Ok (v, e))
    field_is q = checks (check k v) refl q

    fails : (o : Option Fault) → check k v ≡ o → {f : Fault} → Err f ≡ verdict_of o → FieldAt k key s at (Err f)
    fails none h q = cc
    fails (some g) h {f} q =
        let z : f ≡ g = cc in
        record { same = λ l. rw z (rw h at (m.same l ∙ field_found a k l)); within = tt }

    pub field_fails : {f : Fault} → Err f ≡ verdict_of (check k v) → FieldAt k key s at (Err f)
    field_fails q = fails (check k v) refl q

pub field_missing : (k : ValueKind) {key s : List ℕ} {at : ℕ} {f : Fault} → AfterKey key s at (Err f) → FieldAt k key s at (Err f)
field_missing k a = record { same = field_refused a k; within = tt }

-- ---- one of two words
module _ (a b : List ℕ) {key s : List ℕ} {at from e : ℕ} (m : TokenAt key s at (Ok (from, e))) {o : Maybe Bool}
    (p : o ≡ told (named (chosen a b) (false ∷ true ∷ []) (take (e - from) (drop from s)))) where
  pub choice_told : {v : Bool} → Ok v ≡ ok_or o Form → FieldAt (choice a b) key s at (Ok (v, e))
  unfolding said check
  choice_told q = record { same = λ l. rw (told_some _ Form (rw p at q)) at (m.same (choice a b) l); within = (token_within m).1 }

  pub choice_untold : {f : Fault} → Err f ≡ ok_or o Form → FieldAt (choice a b) key s at (Err f)
  unfolding said unsaid
  choice_untold q = let z = told_none _ Form (rw p at q) in record { same = λ l. rw (z.1) (rw (z.0) at (m.same (choice a b) l)); within = tt }
