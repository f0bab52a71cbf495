-- An operand is a variable, or the value with the bits given.
use Rattle.std.proofs.Common.{◌∙◌}
use borrow.Author.Tests.{lt-ltb, le-ltb}
use Rattle.values.proofs.Again.{again}
use Rattle.run_step.proofs.operand.Goals as goal

pub returns-then-k-lt16 : goal.returns-then-k-lt16
returns-then-k-lt16 c = rw (lt-ltb c.args.v 16 c.if-k-lt16.true) (again _ (record { sfits = c.result-1.given }))

pub returns-else-k-lt16 : goal.returns-else-k-lt16
returns-else-k-lt16 c = rw (le-ltb c.args.v 16 c.if-k-lt16.false) (again c.of_bits.result (record { sfits = c.of_bits.type_inv }) ∙ c.of_bits.ensures)
