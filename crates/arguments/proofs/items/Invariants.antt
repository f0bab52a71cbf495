use Rattle.arguments.specs.ListLaws.{Taking}
use Rattle.arguments.proofs.items.Given as goal

abbrev pub invariant-loop-n : goal.invariant-loop-n
invariant-loop-n g l = Taking g.T.Item.says l.word l.initial.out l.out l.from l.n
