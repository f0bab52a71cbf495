-- The entries move up by one.
use Rattle.values.proofs.Again.{again}
use Rattle.run_step.proofs.Leaves.{popped_is}
use Rattle.run_step.proofs.pop.Goals as goal

pub returns : goal.returns
returns c = popped_is c.args.items.now c.requires
    (again _ (record { sfits = c.items-1.given }))
    (again _ (record { sfits = c.items-2-1.given }))
    (again _ (record { sfits = c.items-3-1.given }))
    (again _ (record { sfits = c.items-4-1.given }))
    (again _ (record { sfits = c.items-5-1.given }))
    (again _ (record { sfits = c.items-6-1.given }))
    (again _ (record { sfits = c.items-7-1.given }))
