-- A table's fault from its lines, its late faults and its unused places, as the code finds it.
use Rattle.std.specs.Prelude.{ℕ, suc, ◌≡◌, refl, List, [], ◌∷◌, Result, Ok, Err}
use Rattle.std.proofs.Math.Option.{Option, none, some}
use Rattle.table.specs.declared.Table.{Table}
use Rattle.text.specs.declared.Fault.{Fault}
use Rattle.text.specs.declared.Fault.TheVariants.{Unused}
use Rattle.text.specs.Value.{unless}
use Rattle.text.specs.Reader.{late, first_late, good, bad}
use Rattle.text.specs.Writer.{tidy}
use Rattle.text.specs.Structure.{first_in, lines_fault, table_fault}
use Rattle.text.proofs.LinedLaws.{lined_of}
pub use Rattle.checks.specs.Judging.{judged}
use Rattle.checks.specs.Judging.{Fails, judged_first, judged_none}
use Rattle.late.specs.Late.{Counted}
use Rattle.unused.specs.Unused.{Ranged}

-- the first fault that the reader finds after all lines is the first of the list
first_none : (t : Table) (l : ℕ) (fs : List (Option Fault)) → good t ≡ first_late t l fs → first_in fs ≡ none
unfolding first_late first_in
first_none t l [] e = refl
first_none t l (none ∷ fs) e = first_none t (suc l) fs e
first_none t l (some f ∷ fs) e = absurd (cc)

first_some : (t : Table) (l : ℕ) (fs : List (Option Fault)) {f : Fault} {k : ℕ} → bad f k ≡ first_late t l fs → first_in fs ≡ some f
unfolding first_late first_in
first_some t l [] e = absurd (cc)
first_some t l (none ∷ fs) e = first_some t (suc l) fs e
first_some t l (some g ∷ fs) e = cc

-- the lines have a fault
pub lines_found : (t : Table) {f : Fault} {r : Result (Unit {0}) Fault} → Err f ≡ judged (lines_fault t) → Fails r f → r ≡ judged (table_fault t)
unfolding table_fault
lines_found t e h = judged_first (lines_fault t) _ e h

-- or none: then the counts are in range,
module _ (t : Table) (e : Ok tt ≡ judged (lines_fault t)) where
  lines_none : lines_fault t ≡ none
  lines_none = judged_none (lines_fault t) e

  pub counted_of : Counted t
  counted_of = let v = lined_of t lines_none in record { tasks = v.tasks; procs = v.procs; nodes = λ p l. (v.proc p l).nodes }

  pub ranged_of : Ranged t
  ranged_of = let v = lined_of t lines_none in record { tasks = v.tasks; sems = v.sems; queues = v.queues; procs = v.procs; nodes = λ p l. (v.proc p l).nodes }

  -- and the fault is a late one or an unused place
  pub late_fault : {f : Fault} {k : ℕ} → bad f k ≡ first_late t 1 (late t) → Err f ≡ judged (table_fault t)
  unfolding table_fault
  late_fault h = rw (lines_none, first_some t 1 (late t) h)

  pub unused_fault : {r : Result (Unit {0}) Fault} → good t ≡ first_late t 1 (late t) → r ≡ judged (unless (tidy t) Unused) → r ≡ judged (table_fault t)
  unfolding table_fault
  unused_fault h u = rw (lines_none, first_none t 1 (late t) h) u
