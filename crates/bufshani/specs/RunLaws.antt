-- The runner's answer, case by case.
use Rattle.std.specs.Prelude.{ℕ, zero, suc, ◌≡◌, refl, List, [], ℤ}
use Rattle.std.proofs.Common.{◌∙◌, ap}
use Rattle.table.specs.declared.Table.{Table}
use Rattle.text.specs.Writer.{fault}
use Rattle.machine.specs.declared.State.{State}
use Rattle.machine.specs.declared.Running.{Running}
use Rattle.machine.specs.State.{no_state}
use Rattle.machine.specs.Run.{Ran, ended, run_checked, run}

module _ (t : Table) (ks : List ℕ) (vs : List ℤ) (most : ℕ) (log : List ℕ) where
  abbrev stopped : ℕ → State → Running
  stopped n s = record { steps = 0; used = 0; stop = n; state = s }

  checked : (n : ℕ) → n ≡ fault t → run_checked t ks vs most log n ≡ run t ks vs most log
  unfolding run
  checked n e = rw e

  refused : (n : ℕ) → n ≡ fault t → (n ≡ 0 → ⊥) → ended n [] 0 no_state [] log ≡ run t ks vs most log
  refused zero e h = absurd (h refl)
  refused (suc n) e h = checked (suc n) e

  pub faulty_answer : (n : ℕ) (s : State) → n ≡ fault t → (n ≡ 0 → ⊥) → s ≡ no_state → stopped n s ≡ (run t ks vs most log).answer
  faulty_answer n s e h z = ap (stopped n) z ∙ ap (λ (r : Ran). r.answer) (refused n e h)

  pub faulty_log : (n : ℕ) → n ≡ fault t → (n ≡ 0 → ⊥) → log ≡ (run t ks vs most log).log
  faulty_log n e h = ap (λ (r : Ran). r.log) (refused n e h)
