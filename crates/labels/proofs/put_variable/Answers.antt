use Rattle.std.proofs.Common.{arith}
use Rattle.put.specs.PutLaws.{put_more}
use borrow.Author.Tests.{eq-eqb, ne_eqb}
use Rattle.labels.proofs.put_variable.Goals as goal

pub returns-then-v-eq-REMOVED : goal.returns-then-v-eq-REMOVED
returns-then-v-eq-REMOVED c = rw (eq-eqb _ 255 c.if-v-eq-REMOVED.true) (put_more (omega arith) c.put_byte.ensures)

pub returns : goal.returns
returns c = rw (ne_eqb _ 255 c.if-v-eq-REMOVED.false) c.put_operand_value.ensures
