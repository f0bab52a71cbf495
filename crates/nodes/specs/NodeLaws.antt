-- Node lines: their targets, what stands behind a kind, and nodes whose sets and variables are what their line's values stand for.
use Rattle.std.specs.Prelude.{ℕ, suc, ◌≡◌, List, Bool, drop, Ok, Err}
use Rattle.std.proofs.lemmas.Result.{err_from_is_err_and}
use Rattle.std.proofs.Math.Path.{sym}
use Rattle.table.specs.declared.Op.{Op}
use Rattle.table.specs.declared.Operand.{Operand}
use Rattle.table.specs.declared.Args.{Args}
use Rattle.text.specs.declared.Fault.{Fault}
use Rattle.text.specs.declared.NodeKind.{NodeKind}
use Rattle.text.specs.Line.{Vals, line}
use Rattle.text.specs.Format.{set_of, Scope as Judged, fields, node_of}
use Rattle.text.specs.Reader.{Numbered}
use Rattle.fields.specs.Answer.{Answer, LineAt, Fails}
use Rattle.nodes.specs.Answer.{last_line, last_set, BodyAt}
use Rattle.fields.specs.FieldLaws.{onto_not, onto_got}
use Rattle.table.specs.declared.Node.{Node}
use Rattle.table.specs.declared.Node.TheVariants.{Start, Set, Test, Read, Call, Wait, Signal, Send, Recv, Assert, Out}

-- ---- targets that end a line
module _ {A : Type 0} {key : List ℕ} {one : Bool} {n : ℕ} {s : List ℕ} {at : ℕ} {g : Vals (last_line key one n) → A} where
  pub last_stop : {x : Fault} → LineAt (last_line key one n) (last_set key one n) s at (Err x) → {r : Answer A} → Fails r x → LineAt (last_line key one n) g s at r
  unfolding line
  last_stop m {r} h =
      let p = err_from_is_err_and r h in
      rw (p.1, p.2) (record { same = λ l. sym (onto_not (line (last_line key one n) l (drop at s)) (last_set key one n) g (sym (m.same l))); within = tt })

  pub last_got : {v e : ℕ} → LineAt (last_line key one n) (last_set key one n) s at (Ok (v, e)) → {a : A} → ((x : List ℕ) → set_of x ≡ v → a ≡ g (x, tt))
      → LineAt (last_line key one n) g s at (Ok (a, e))
  last_got {v} {e} m u = record {
    same = λ l.
        let t = onto_got (line (last_line key one n) l (drop at s)) (last_set key one n) {b = v} {l = suc l} {s = drop e s} (sym (m.same l)) in
        rw (t.1, u t.0.0 t.2);
    within = m.within;
  }

-- ---- what stands behind a kind
module _ {c : Judged} {s : List ℕ} {at : ℕ} {r : Answer Node} where
  pub body_of : {k w : NodeKind} → k ≡ w → BodyAt c w s at r → BodyAt c k s at r
  body_of q u = rw q u

module _ {A : Type 0} {c : Judged} {k : NodeKind} {s : List ℕ} {at : ℕ} {g : Vals (fields c k) → A} where
  pub body_stop : {x : Fault} → BodyAt c k s at (Err x) → LineAt (fields c k) g s at (Err x)
  body_stop m = record { same = λ l. sym (onto_not (line (fields c k) l (drop at s)) (node_of c k) g (sym (m.is.same l))); within = tt }

  pub body_got : {x : Node} {e : ℕ} → BodyAt c k s at (Ok (x, e)) → {a : A} → ((w : Vals (fields c k)) → node_of c k w ≡ x → a ≡ g w) → LineAt (fields c k) g s at (Ok (a, e))
  body_got {x} {e} m u = record {
    same = λ l.
        let t = onto_got (line (fields c k) l (drop at s)) (node_of c k) {b = x} {l = suc l} {s = drop e s} (sym (m.is.same l)) in
        rw (t.1, u t.0 t.2);
    within = m.is.within;
  }

pub node_numbered : {j : ℕ} {x y : Node} → y ≡ x → ◌≡◌ {A = Numbered} (record { at = j; node = x }) (record { at = j; node = y })
node_numbered p = rw p

-- ---- a node, from what its values stand for
module _ {m x : ℕ} (p : x ≡ m) where
  pub start_to : Start m ≡ Start x
  start_to = rw p

  pub read_to : {v : ℕ} → Read v m ≡ Read v x
  read_to = rw p

  pub wait_to : {v : ℕ} → Wait v m ≡ Wait v x
  wait_to = rw p

  pub signal_to : {v : ℕ} → Signal v m ≡ Signal v x
  signal_to = rw p

module _ {v y : ℕ} (q : y ≡ v) {m x : ℕ} (p : x ≡ m) where
  pub assert_to : Assert v m ≡ Assert y x
  assert_to = rw (q, p)

  pub out_to : Out v m ≡ Out y x
  out_to = rw (q, p)

  pub send_to : {u : ℕ} → Send u v m ≡ Send u y x
  send_to = rw (q, p)

  pub recv_to : {u : ℕ} → Recv u v m ≡ Recv u y x
  recv_to = rw (q, p)

pub call_to : {a y : Args} → y ≡ a → {m x : ℕ} → x ≡ m → {u : ℕ} → Call u a m ≡ Call u y x
call_to q p = rw (q, p)

-- ---- an operand that is taken out of its answer after the place was
pub operand_of : {r : Answer Operand} {a : Operand} {i : ℕ} {x : Operand × ℕ} → r ≡ Ok (a, i) → r ≡ Ok x → x.0 ≡ a
operand_of p q = cc

module _ {a b c d : Operand} (p : c ≡ a) (q : d ≡ b) {m x : ℕ} (r : x ≡ m) {o : Op} where
  pub set_to : {v : ℕ} → Set v o c d m ≡ Set v o a b x
  set_to = rw (p, q, r)

  pub test_no : {n y : ℕ} → y ≡ n → Test o c d m n ≡ Test o a b x y
  test_no s = rw (p, q, r, s)
