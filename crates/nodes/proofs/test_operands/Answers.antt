use Rattle.fields.specs.FieldLaws.{operand_next, operand_stop, list_next, list_stop}
use Rattle.nodes.specs.NodeLaws.{last_got, last_stop, test_no, operand_of}
use Rattle.nodes.proofs.test_operands.Goals as goal

pub returns-in_err-p : goal.returns-in_err-p
returns-in_err-p c = operand_stop c.in_err-p.ensures c.from_residual.ensures.1

pub returns-in_err-q : goal.returns-in_err-q
returns-in_err-q c = operand_next c.in_ok-p.ensures (operand_stop c.in_err-q.ensures c.from_residual-in_err-q.ensures.1)

pub returns-in_err-yes : goal.returns-in_err-yes
returns-in_err-yes c = operand_next c.in_ok-p.ensures (operand_next c.in_ok-q.ensures (list_stop c.in_err-yes.ensures c.from_residual-in_err-yes.ensures.1))

pub returns-in_err-no : goal.returns-in_err-no
returns-in_err-no c = operand_next c.in_ok-p.ensures (operand_next c.in_ok-q.ensures (list_next c.in_ok-yes.ensures (λ x2 h2. last_stop c.in_err-no.ensures c.from_residual-in_err-no.ensures.1)))

pub returns : goal.returns
returns c = operand_next c.in_ok-p.ensures (operand_next c.in_ok-q.ensures (list_next c.in_ok-yes.ensures (λ x2 h2. last_got c.in_ok-no.ensures (λ x h. test_no (operand_of c.in_ok-p.was c.unwrap-a.ensures) (operand_of c.in_ok-q.was c.unwrap-b.ensures) h2 h))))
