use Rattle.std.proofs.Common.{◌≡◌, Some, None, Err, sym, ◌∙◌, arith}
use Rattle.text.specs.declared.Fault.TheVariants.{Misspelt}
use Rattle.arguments.specs.OperandLaws.{neg_bad}
use Rattle.operands.specs.OperandLaws.{judged_negative}
use Rattle.arguments.proofs.negative.Goals as goal

pub returns-in_err-x : goal.returns-in_err-x
returns-in_err-x c =
    let e : c.number.result ≡ None = grind arith in
    let q : c.from_residual.result ≡ Err Misspelt = grind arith in
    rw q (neg_bad _ 0 0 c.number.ensures e)

pub returns : goal.returns
returns c = let e : c.number.result ≡ Some c.in_ok-x.x = grind arith in (judged_negative c.negative_operand.ensures).is _ (sym e ∙ c.number.ensures)
