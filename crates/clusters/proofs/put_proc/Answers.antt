use Rattle.std.proofs.Common.{rules}
use Rattle.clusters.specs.Clusters.{mask_nodes}
use Rattle.clusters.specs.ClusterLaws.{proc_put}
use Rattle.clusters.proofs.put_proc.Goals as goal

pub returns : goal.returns
returns c =
    let q = c.args.q in
    proc_put c.args.closed c.args.tasks c.args.count c.args.p c.args.keep q c.requires.2.within.count c.top_tasks-tops.ensures c.nodes-seen.ensures c.put_cluster-a.ensures c.put_sizes-b.ensures
    (c.put_rows-c.ensures.rows (mask_nodes c.args.p c.args.keep c.nodes-seen.result q.slots) (search rules))
    c.put_text.ensures
