use Rattle.analysis.specs.StepLaws.{pass_is}
use Rattle.analysis.specs.WorklistLaws.{pass_todo, pass_next}
use Rattle.analysis.proofs.visit.Goals as goal

pub returns-then-s-lt32 : goal.returns-then-s-lt32
returns-then-s-lt32 c = let h = c.if-s-lt32.true in let e = c.requires.1.1.1.1 h in record { list = pass_is _ c.args.x _ _ _ _ e h c.pass.ensures.list; todo = pass_todo _ c.args.x _ _ _ _ e h c.args.recvs.now c.args.todo.now c.requires.0 c.requires.1.1.0.0 c.pass.ensures.todo; next = pass_next c.args.cells.now c.args.x _ _ _ _ e h c.pass.ensures.next }
