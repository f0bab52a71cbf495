use Rattle.text.specs.Reader.{read}
use Rattle.reader.specs.ReaderLaws.{Filled, Judging}
use Rattle.reader.proofs.read.Given as goal

abbrev pub invariant-loop-i : goal.invariant-loop-i
invariant-loop-i l = Filled l.s l.front l.initial.p l.initial.l l.table l.callee l.p l.l l.i

abbrev pub invariant-loop-i-2 : goal.invariant-loop-i-2
invariant-loop-i-2 l = Judging (read l.s) l.table l.n l.terms l.initial.k l.k l.i
