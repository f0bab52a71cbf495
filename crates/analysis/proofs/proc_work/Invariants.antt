use Rattle.std.proofs.Common.{◌<◌, None, MatchOption}
use Rattle.analysis.specs.Work.{left_of, Going, Along}
use Rattle.analysis.specs.WorklistLaws.{Toward}
use Rattle.analysis.proofs.proc_work.Given as goal

abbrev pub invariant-loop-next : goal.invariant-loop-next
invariant-loop-next l = record {
  low : MatchOption l.next (Unit {0}) (λ n. n < 32);
  along : Along l.recvs l.q l.p l.initial.cells l.initial.todo l.cells l.todo l.next;
  toward : Toward l.recvs l.q l.p l.initial.cells l.initial.todo l.next l.cells l.todo;
}

abbrev pub decreases-loop-next : goal.decreases-loop-next
decreases-loop-next l = left_of l.cells l.todo

abbrev pub invariant-loop-todo : goal.invariant-loop-todo
invariant-loop-todo l = record {
  going : Going l.recvs l.q l.p l.initial.cells l.initial.todo l.cells l.todo;
  toward : Toward l.recvs l.q l.p l.initial.cells l.initial.todo None l.cells l.todo;
}

abbrev pub decreases-loop-todo : goal.decreases-loop-todo
decreases-loop-todo l = left_of l.cells l.todo
