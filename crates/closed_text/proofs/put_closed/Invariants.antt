use Rattle.put.specs.RowLaws.{PutRows}
use Rattle.closed_text.specs.ClosedLaws.{Closable, closed_procs}
use Rattle.closed_text.proofs.put_closed.Given as goal

abbrev pub invariant-loop-i : goal.invariant-loop-i
invariant-loop-i l = record {
  closable : Closable l.t;
  rows : PutRows 7820 (closed_procs l.t) l.initial.out l.initial.p l.out l.p l.i;
}
