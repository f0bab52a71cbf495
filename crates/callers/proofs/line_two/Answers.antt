-- `callers::line_two` closes and explores, and line 2 of the sheet holds of its answer: `explored_calls` is applied to what `close` and `explore` ensure.
use Rattle.callers.specs.LineTwo.{sheet_is, sheet_clears}
use Rattle.callers.proofs.line_two.Goals as goal

pub returns : goal.returns
returns c = record { answer = sheet_is c.args.t c.args.depth c.args.bound c.close-c.ensures c.explore-explored.ensures; line_2 = sheet_clears c.args.t c.args.depth c.args.bound c.close-c.ensures c.explore-explored.ensures }
