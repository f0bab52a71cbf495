-- A test: it goes on by the arc that what it computes says.
use Rattle.std.proofs.Common.{pos}
use Rattle.table.specs.Table.{removed}
use Rattle.run_step.specs.Standing.{rows_here, goings_to, goings_no, goes_to_lem, goes_no}
use Rattle.run_step.specs.Arms.{result_is, yes_did, no_did}
use Rattle.run_step.proofs.Leaves.{holds_no, holds_yes}
use Rattle.run_step.proofs.test_step.Goals as goal

pub computed_at-x-requires : goal.computed_at-x-requires
computed_at-x-requires c = rows_here c.requires.0.stands

pub go_on-requires : goal.go_on-requires
go_on-requires c = goings_to c.requires.0 c.by_arc-yes.result removed (pos 0) c.args.used c.requires.0.stands.within c.by_arc-yes.ensures

pub returns-then-x-ne0 : goal.returns-then-x-ne0
returns-then-x-ne0 c = λ t s z.
    let x = c.computed_at-x in
    (yes_did z c.args.most c.requires.1 x.result (result_is z c.args.most x.result x.ensures) (holds_yes x.result c.if-x-ne0.true)
    (goes_to_lem z c.args.most c.go_on.ensures removed (pos 0) c.args.used z.within c.by_arc-yes.ensures))

pub go_on-requires-2 : goal.go_on-requires-2
go_on-requires-2 c = goings_no c.requires.0 c.by_no-no.result removed (pos 0) c.args.used c.requires.0.stands.within c.requires.1 c.by_no-no.ensures

pub returns : goal.returns
returns c = λ t s z.
    let x = c.computed_at-x in
    (no_did z c.args.most c.requires.1 x.result (result_is z c.args.most x.result x.ensures) (holds_no x.result (record { sfits = x.type_inv }) c.if-x-ne0.false)
    (goes_no z c.args.most c.go_on-2.ensures removed (pos 0) c.args.used z.within c.requires.1 c.by_no-no.ensures))
