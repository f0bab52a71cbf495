use Rattle.std.proofs.Common.{rules}
use Rattle.digits.specs.LeadLaws.{lead_stop, digit_low, digit_high, lead_turn, lead_over}
use Rattle.digits.proofs.further_digits.Goals as goal

pub returns-then-digit-gt9 : goal.returns-then-digit-gt9
returns-then-digit-gt9 c = search (rules, lead_stop)

pub push-v-requires : goal.push-v-requires
push-v-requires c = search (rules, digit_low, digit_high)

pub loop-i-preserved : goal.loop-i-preserved
loop-i-preserved c = search (rules, lead_turn)

pub returns : goal.returns
returns c = search (rules, lead_over)
