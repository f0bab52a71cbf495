-- A set: it goes on with what it computes.
use Rattle.std.proofs.Common.{w32, [], ◌∙◌, ap, get_or, ℤ, to_z-of_z}
use Rattle.run_code.specs.Code.{byte}
use Rattle.run_step.specs.Standing.{rows_here, goings_to, goes_to_lem}
use Rattle.run_step.specs.Arms.{result_is, set_did}
use Rattle.run_step.specs.Effects.{goes_to}
use Rattle.run_step.proofs.set_step.Goals as goal

pub computed_at-x-requires : goal.computed_at-x-requires
computed_at-x-requires c = rows_here c.requires.0.stands

pub go_on-requires : goal.go_on-requires
go_on-requires c = goings_to c.requires.0 c.by_arc-o.result _ _ c.args.used c.requires.0.stands.within c.by_arc-o.ensures

pub returns : goal.returns
returns c = λ t s z.
    let row = get_or c.args.code.now c.args.a [] in
    let arc = byte (get_or c.args.words.now c.args.a []) 2 in
    let x = to_z-of_z {w = w32} (record { sfits = c.computed_at-x.type_inv }) ∙ (result_is z c.args.most c.computed_at-x.result c.computed_at-x.ensures) in
    (set_did z c.args.most c.requires.1
    (goes_to_lem z c.args.most c.go_on.ensures (byte row 4) _ c.args.used z.within
    (c.by_arc-o.ensures ∙ ap (λ (y : ℤ). goes_to (byte row 4) y c.args.used arc (byte row 7)) x)))
