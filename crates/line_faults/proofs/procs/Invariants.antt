use Rattle.text.specs.Structure.{proc_fault}
use Rattle.line_faults.specs.Rows.{Passed}
use Rattle.line_faults.proofs.procs.Given as goal

abbrev pub invariant-loop-p : goal.invariant-loop-p
invariant-loop-p l = Passed (proc_fault l.t) l.t.procs l.p
