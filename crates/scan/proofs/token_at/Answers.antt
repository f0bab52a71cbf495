use Rattle.std.proofs.Common.{rules}
use Rattle.scan.specs.PlaceLaws.{token_refused, token_found}
use Rattle.scan.proofs.token_at.Goals as goal

pub returns-in_err-b : goal.returns-in_err-b
returns-in_err-b c = search (rules, token_refused c.in_err-b.ensures)

pub returns : goal.returns
returns c = search (rules, token_found c.in_ok-b.ensures)
