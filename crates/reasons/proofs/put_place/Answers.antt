-- The key, the number, then `: `.
use Rattle.std.proofs.Common.{rules}
use Rattle.reasons.specs.ReasonLaws.{place_put}
use Rattle.reasons.proofs.put_place.Goals as goal

pub returns : goal.returns
returns c = search (rules, place_put)
