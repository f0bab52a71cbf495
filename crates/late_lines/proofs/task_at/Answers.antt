use Rattle.late_lines.specs.Walks.{task_step}
use Rattle.late_lines.proofs.task_at.Goals as goal

pub returns-clause-found : goal.returns-clause-found
returns-clause-found c = task_step c.args.c c.args.x _ c.callee_at-p.ensures c.drops.ensures c.step.ensures
