use Rattle.put.specs.PutLaws.{Copying}
use Rattle.put.proofs.fill_text.Given as goal

abbrev pub invariant-loop-i : goal.invariant-loop-i
invariant-loop-i l = Copying l.initial.out l.at l.t l.out l.i
