use Rattle.std.proofs.Common.{rules}
use Rattle.digits.specs.LeadLaws.{first_leading, lead_stop, lead_step, lead_over}
use Rattle.digits.proofs.digits_at.Goals as goal

pub loop-i-init : goal.loop-i-init
loop-i-init c = search (rules, first_leading)

pub returns-then-d-gt9 : goal.returns-then-d-gt9
returns-then-d-gt9 c = search (rules, lead_stop)

pub loop-i-preserved : goal.loop-i-preserved
loop-i-preserved c = search (rules, lead_step)

pub returns : goal.returns
returns c = search (rules, lead_over)
