use Rattle.std.proofs.Common.{arith, rules}
use Rattle.put.specs.PutLaws.{put_more}
use Rattle.labels.specs.Graph.{callees_text}
use Rattle.clusters.proofs.put_calls.Goals as goal

pub returns : goal.returns
returns c = put_more (omega (arith, c.requires.1.within.count)) (c.put_rows.ensures.rows (callees_text c.args.p c.args.q.slots) (search rules))
