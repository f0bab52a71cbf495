-- What the rows of a node say, by kinds: whether it is blocked, and its effect if it is dropped.
use Rattle.std.specs.Prelude.{ℕ, Bool, true, false, List, ◌≡◌, eqb, leb, ℤ, pos, Ok}
use Rattle.std.proofs.Math.Path.{refl, ap}
use Rattle.std.proofs.Common.{sym, ◌∙◌}
use borrow.Author.Tests.{ne_eqb}
use Rattle.table.specs.Mask.{pick}
use Rattle.table.specs.Table.{parts, removed, arc_to}
use Rattle.table.specs.Values.{apply, holds}
use Rattle.table.specs.declared.Node.{Node}
use Rattle.machine.specs.Step.{operand_in}
use Rattle.values.specs.Numbered.{operation}
use Rattle.run_code.specs.Code.{byte, operand_of, node_of}
use Rattle.run_code.specs.CodeLaws.{is_set, is_test, is_read}
use Rattle.run_step.specs.Effects.{sem_of, len_of, stuck_of, goes_to, read_to, pass_of}

module _ (k : ℕ) (b m : List ℕ) (d : ℕ) where
  pub stuck_call : k ≡ 5 → leb 8 d ≡ stuck_of k b m d
  unfolding stuck_of
  stuck_call e = ap (λ (j : ℕ). stuck_of j b m d) (sym e)

  pub stuck_wait : k ≡ 6 → eqb (sem_of b m) 0 ≡ stuck_of k b m d
  unfolding stuck_of
  stuck_wait e = ap (λ (j : ℕ). stuck_of j b m d) (sym e)

  pub stuck_signal : k ≡ 7 → leb 255 (sem_of b m) ≡ stuck_of k b m d
  unfolding stuck_of
  stuck_signal e = ap (λ (j : ℕ). stuck_of j b m d) (sym e)

  pub stuck_send : k ≡ 8 → leb (byte b 3) (len_of b m) ≡ stuck_of k b m d
  unfolding stuck_of
  stuck_send e = ap (λ (j : ℕ). stuck_of j b m d) (sym e)

  pub stuck_receive : k ≡ 9 → eqb (len_of b m) 0 ≡ stuck_of k b m d
  unfolding stuck_of
  stuck_receive e = ap (λ (j : ℕ). stuck_of j b m d) (sym e)

  pub stuck_return : k ≡ 12 → leb d 1 ≡ stuck_of k b m d
  unfolding stuck_of
  stuck_return e = ap (λ (j : ℕ). stuck_of j b m d) (sym e)

  pub stuck_none : (k ≡ 5 → ⊥) → (k ≡ 6 → ⊥) → (k ≡ 7 → ⊥) → (k ≡ 8 → ⊥) → (k ≡ 9 → ⊥) → (k ≡ 12 → ⊥) → false ≡ stuck_of k b m d
  unfolding stuck_of
  stuck_none p q r s t u = rw (ne_eqb k 5 p, ne_eqb k 6 q, ne_eqb k 7 r, ne_eqb k 8 s, ne_eqb k 9 t, ne_eqb k 12 u) refl

-- ---- a dropped node's effect, by its rows

-- what a set or a test computes
abbrev pub result_of : List ℕ → List ℕ → List ℤ → ℤ
result_of b w l = apply (operation (byte b 1)) (operand_in l (operand_of (byte b 2) (byte w 0))) (operand_in l (operand_of (byte b 3) (byte w 1)))

module _ (b w : List ℕ) (l vs : List ℤ) (used : ℕ) where
  pub pass_set : byte b 0 ≡ 2 → Ok (goes_to (byte b 4) (result_of b w l) used (byte w 2) 0) ≡ pass_of (node_of b w) l vs used
  unfolding pass_of
  pass_set e = ap (λ (x : Node). pass_of x l vs used) (sym (is_set b w e))

  pub pass_test : byte b 0 ≡ 3 → Ok (goes_to removed (pos 0) used (pick (holds (result_of b w l)) (byte w 2) (byte w 3)) 0) ≡ pass_of (node_of b w) l vs used
  unfolding pass_of
  pass_test e = ap (λ (x : Node). pass_of x l vs used) (sym (is_test b w e))

  pub pass_read : byte b 0 ≡ 4 → read_to (byte b 4) vs used (byte w 2) 0 ≡ pass_of (node_of b w) l vs used
  unfolding pass_of
  pass_read e = ap (λ (x : Node). pass_of x l vs used) (sym (is_read b w e))

  -- of a node that only goes on
  abbrev Plainly : Node → Type 0
  Plainly x = Ok (goes_to removed (pos 0) used (arc_to x) 0) ≡ pass_of x l vs used

  or : (c : Bool) (x y : Node) → Plainly x → Plainly y → Plainly (pick c x y)
  or true x y p q = p
  or false x y p q = q

  pub pass_other : (byte b 0 ≡ 2 → ⊥) → (byte b 0 ≡ 3 → ⊥) → (byte b 0 ≡ 4 → ⊥) → byte w 2 ≡ arc_to (node_of b w) → Ok (goes_to removed (pos 0) used (byte w 2) 0) ≡ pass_of (node_of b w) l vs used
  unfolding node_of pass_of parts
  pass_other p q r e =
      let k = byte b 0 in
      ap (λ (z : ℕ). Ok (goes_to removed (pos 0) used z 0)) e
      ∙ rw (ne_eqb k 2 p, ne_eqb k 3 q, ne_eqb k 4 r)
      (or (eqb k 1) _ _ refl (or (eqb k 5) _ _ refl (or (eqb k 6) _ _ refl (or (eqb k 7) _ _ refl (or (eqb k 8) _ _ refl (or (eqb k 9) _ _ refl
      (or (eqb k 10) _ _ refl (or (eqb k 11) _ _ refl (or (eqb k 12) _ _ refl refl)))))))))
