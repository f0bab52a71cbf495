use Rattle.std.proofs.Common.{◌≡◌, Some, None, Err, sym, ◌∙◌, arith}
use Rattle.text.specs.declared.Fault.TheVariants.{Misspelt}
use Rattle.arguments.specs.OperandLaws.{const_bad}
use Rattle.operands.specs.OperandLaws.{judged_constant}
use Rattle.arguments.proofs.constant.Goals as goal

pub returns-in_err-x : goal.returns-in_err-x
returns-in_err-x c =
    let e : c.number.result ≡ None = grind arith in
    let q : c.from_residual.result ≡ Err Misspelt = grind arith in
    rw q (const_bad _ 0 0 c.number.ensures e)

pub returns : goal.returns
returns c = let e : c.number.result ≡ Some c.in_ok-x.x = grind arith in (judged_constant c.constant_operand.ensures).is _ (sym e ∙ c.number.ensures)
