use Rattle.std.proofs.Common.{w32, to_z, to_z-of_z, ◌∙◌, ap}
use Rattle.report_steps.proofs.logged_value.Goals as goal

pub returns : goal.returns
returns c = to_z-of_z {w = w32} (record { sfits = c.of_bits.type_inv }) ∙ c.of_bits.ensures ∙ ap (to_z w32) c.word-w.ensures
