use Rattle.std.proofs.Common.{arith}
use Rattle.clusters.specs.ClusterLaws.{node_put}
use Rattle.clusters.proofs.put_marked.Goals as goal

pub put_node-requires : goal.put_node-requires
put_node-requires c = (omega arith, c.requires.1.within.few c.args.j c.requires.2)

pub returns : goal.returns
returns c = node_put c.args.p c.args.keep c.args.seen c.args.j _ (omega (arith, c.requires.1.within.count)) c.has-kept.ensures c.has-there.ensures c.put_node.ensures
