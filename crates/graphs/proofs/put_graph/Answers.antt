use Rattle.std.proofs.Common.{arith, rules}
use Rattle.graphs.specs.Graphs.{mask_procs, proc_calls}
use Rattle.graphs.specs.GraphLaws.{graph_put}
use Rattle.graphs.proofs.put_graph.Goals as goal

pub put_caption-b-requires : goal.put_caption-b-requires
put_caption-b-requires c = (omega arith, c.requires.sems, c.requires.queues)

pub returns : goal.returns
returns c =
    let t = c.args.t in
    graph_put t c.args.keep c.requires c.put_opening-a.ensures c.put_caption-b.ensures
    (c.put_rows-c.ensures.rows (mask_procs t.closed t.task t.tasks c.args.keep t.proc) (search rules))
    (c.put_rows-d.ensures.rows (proc_calls t.proc) (search rules))
    c.put_text.ensures
