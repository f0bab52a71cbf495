use Rattle.std.proofs.Common.{◌≡◌, get_or, eqb}
use Rattle.table.specs.Table.{no_task}
use Rattle.table.specs.Mask.{mask_of}
use Rattle.clusters.proofs.top_tasks.Given as goal

abbrev pub invariant-loop-i : goal.invariant-loop-i
invariant-loop-i l = l.m ≡ mask_of l.i (λ k. eqb (get_or l.tasks k no_task).top l.p)
