-- The writer's answer and buffer, case by case.
use Rattle.std.specs.Prelude.{ℕ, zero, suc, ◌≡◌, refl, List}
use Rattle.std.proofs.Common.{sym, ◌∙◌}
use Rattle.table.specs.declared.Table.{Table}
use Rattle.text.specs.Writer.{text, fault, unwritten, fitted, unless_fault, write_to}

module _ (t : Table) (buffer : List ℕ) where
  checked : (n : ℕ) → n ≡ fault t → unless_fault n (fitted (text t) buffer) buffer ≡ write_to t buffer
  unfolding write_to
  checked n e = rw e

  pub write_faulty : (n : ℕ) → n ≡ fault t → (n ≡ 0 → ⊥) → unwritten n buffer ≡ write_to t buffer
  write_faulty zero e h = absurd (h refl)
  write_faulty (suc n) e h = checked (suc n) e

  pub write_good : (n : ℕ) → n ≡ fault t → n ≡ 0 → fitted (text t) buffer ≡ write_to t buffer
  write_good n e h = checked 0 (sym h ∙ e)
