-- A start, or no node: it goes on by its arc.
use Rattle.std.proofs.Common.{pos}
use Rattle.table.specs.Table.{removed}
use Rattle.run_step.specs.Standing.{goings_to, goes_to_lem}
use Rattle.run_step.specs.Arms.{plain_did}
use Rattle.run_step.proofs.start_step.Goals as goal

pub go_on-requires : goal.go_on-requires
go_on-requires c = goings_to c.requires.0 c.by_arc-o.result removed (pos 0) c.args.used c.requires.0.stands.within c.by_arc-o.ensures

pub returns : goal.returns
returns c = λ t s z.
    let g = goes_to_lem z c.args.most c.go_on.ensures removed (pos 0) c.args.used z.within c.by_arc-o.ensures in
    (plain_did z c.args.most c.requires.1 g)
