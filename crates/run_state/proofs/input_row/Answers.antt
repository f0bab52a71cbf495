-- `run_state::input_row` answers variables whose first are the next m values.
use Rattle.std.proofs.Common.{arith, ◌∙◌, w32, to_z-of_z}
use borrow.Author.Tests.{ltb-true}
use Rattle.run_state.proofs.Rows.{row_is}
use Rattle.run_state.proofs.input_row.Goals as goal

pub input-a-requires : goal.input-a-requires
input-a-requires c = λ e. omega (arith, ltb-true 0 c.args.m e)

pub input-b-requires : goal.input-b-requires
input-b-requires c = λ e. omega (arith, ltb-true 1 c.args.m e)

pub input-c-requires : goal.input-c-requires
input-c-requires c = λ e. omega (arith, ltb-true 2 c.args.m e)

pub input-d-requires : goal.input-d-requires
input-d-requires c = λ e. omega (arith, ltb-true 3 c.args.m e)

pub returns : goal.returns
returns c = row_is c.args.m c.args.used c.args.values.now c.requires.0 c.requires.1
    (to_z-of_z {w = w32} (record { sfits = c.input-a.type_inv }) ∙ c.input-a.ensures)
    (to_z-of_z {w = w32} (record { sfits = c.input-b.type_inv }) ∙ c.input-b.ensures)
    (to_z-of_z {w = w32} (record { sfits = c.input-c.type_inv }) ∙ c.input-c.ensures)
    (to_z-of_z {w = w32} (record { sfits = c.input-d.type_inv }) ∙ c.input-d.ensures)
