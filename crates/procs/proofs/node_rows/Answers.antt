use Rattle.std.proofs.Common.{rules}
use Rattle.procs.specs.NodesLaws.{nodes_start, nodes_below, nodes_index, nodes_less, nodes_turn, nodes_stop, nodes_end}
use Rattle.procs.proofs.node_rows.Goals as goal

pub loop-c-init : goal.loop-c-init
loop-c-init c = search (rules, nodes_start)

pub next_node-row-requires : goal.next_node-row-requires
next_node-row-requires c = search (rules, nodes_below)

pub returns-in_default : goal.returns-in_default
returns-in_default c = search (rules, nodes_stop)

pub offset_bounds-slots-k : goal.offset_bounds-slots-k
offset_bounds-slots-k c = search (rules, nodes_index)

pub bounds-slots-k : goal.bounds-slots-k
bounds-slots-k c = search (rules, nodes_index)

pub overflow_add-next : goal.overflow_add-next
overflow_add-next c = search (rules, nodes_index)

pub loop-c-smaller : goal.loop-c-smaller
loop-c-smaller c = search (rules, nodes_less)

pub loop-c-preserved : goal.loop-c-preserved
loop-c-preserved c = search (rules, nodes_turn)

pub returns : goal.returns
returns c = search (rules, nodes_end)
