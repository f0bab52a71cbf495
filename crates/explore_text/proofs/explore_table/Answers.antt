-- `explore_text::explore_table` refuses an open table, then a depth over 24.
use Rattle.std.proofs.Common.{◌≡◌, true, false, arith}
use Rattle.explore_text.specs.TextLaws.{prints_open, prints_deep}
use Rattle.explore_text.proofs.explore_table.Goals as goal

pub returns-then-not-t : goal.returns-then-not-t
returns-then-not-t c = let k : c.args.t.closed ≡ false = grind arith in prints_open _ c.requires k c.put_refused.ensures

pub returns-then-depth-gt24 : goal.returns-then-depth-gt24
returns-then-depth-gt24 c = let k : c.args.t.closed ≡ true = grind arith in prints_deep _ c.requires k c.if-depth-gt24.true c.put_refused-then-depth-gt24.ensures
