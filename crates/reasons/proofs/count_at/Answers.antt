-- The number behind a key, by what stands at the place.
use Rattle.reasons.specs.ReasonLaws.{key_within, count_found, count_unfound}
use Rattle.reasons.proofs.count_at.Goals as goal

pub returns-in_default : goal.returns-in_default
returns-in_default c = count_unfound _ _ c.in_default.ensures

pub count_in-requires : goal.count_in-requires
count_in-requires c = (key_within c.in-Ok.ensures, c.requires.1)

pub returns : goal.returns
returns c = count_found c.in-Ok.ensures c.count_in.ensures
