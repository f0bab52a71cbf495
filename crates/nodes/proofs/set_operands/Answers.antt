use Rattle.fields.specs.FieldLaws.{operand_next, operand_stop}
use Rattle.nodes.specs.NodeLaws.{last_got, last_stop, set_to, operand_of}
use Rattle.nodes.proofs.set_operands.Goals as goal

pub returns-in_err-p : goal.returns-in_err-p
returns-in_err-p c = operand_stop c.in_err-p.ensures c.from_residual.ensures.1

pub returns-in_err-q : goal.returns-in_err-q
returns-in_err-q c = operand_next c.in_ok-p.ensures (operand_stop c.in_err-q.ensures c.from_residual-in_err-q.ensures.1)

pub returns-in_err-to : goal.returns-in_err-to
returns-in_err-to c = operand_next c.in_ok-p.ensures (operand_next c.in_ok-q.ensures (last_stop c.in_err-to.ensures c.from_residual-in_err-to.ensures.1))

pub returns : goal.returns
returns c = operand_next c.in_ok-p.ensures (operand_next c.in_ok-q.ensures (last_got c.in_ok-to.ensures (λ x h. set_to (operand_of c.in_ok-p.was c.unwrap-a.ensures) (operand_of c.in_ok-q.was c.unwrap-b.ensures) h)))
