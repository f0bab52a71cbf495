use Rattle.std.proofs.Common.{rules}
use Rattle.digits.specs.LeadLaws.{digit_wraps}
use Rattle.digits.proofs.digit.Goals as goal

pub returns : goal.returns
returns c = search (rules, digit_wraps)
