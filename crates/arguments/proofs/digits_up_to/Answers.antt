use Rattle.std.proofs.Common.{arith}
use Rattle.arguments.specs.NumberLaws.{going_start, going_other, going_over, going_turn, going_end}
use Rattle.arguments.proofs.digits_up_to.Goals as goal
use Rattle.arguments.proofs.digits_up_to.Goals.{then-m-d-via-then-m-d, then-m-d-via-else-m-d+then-m-d-2}

pub loop-b-init : goal.loop-b-init
loop-b-init c = going_start _ _

pub returns-then-not-is_ascii_digit : goal.returns-then-not-is_ascii_digit
returns-then-not-is_ascii_digit c = going_other c.loop-b.invariant c.loop-b-test.true c.if-not-is_ascii_digit.ensures.cases

pub returns-then-m-d : goal.returns-then-m-d
returns-then-m-d c =
    let digit = c.if-not-is_ascii_digit.ensures.cases in
    going_over c.loop-b.invariant c.loop-b-test.true digit.0 digit.1 c.from-d.ensures
    (elim c.then-m-d.branch [ then-m-d-via-then-m-d w ↦ omega arith | then-m-d-via-else-m-d+then-m-d-2 w ↦ omega arith ])

pub loop-b-preserved : goal.loop-b-preserved
loop-b-preserved c =
    let digit = c.if-not-is_ascii_digit.ensures.cases in
    going_turn c.loop-b.invariant c.loop-b-test.true digit.0 digit.1 c.from-d.ensures (omega arith)

pub returns : goal.returns
returns c = going_end c.loop-b.invariant c.loop-b-test.false
