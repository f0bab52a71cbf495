use Rattle.std.proofs.Common.{rules}
use Rattle.scan.specs.PlaceLaws.{feed_is}
use Rattle.scan.proofs.feed.Goals as goal

pub returns : goal.returns
returns c = search (rules, feed_is)
