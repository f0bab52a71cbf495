-- `unfolding computing` opens every definition, of this crate and below, that an example computes with.
use Rattle.std.specs.Prelude.{ℕ}
use Rattle.std.proofs.Math.Decide.{ℕ_discrete}
use Rattle.text.proofs.Computing as Below
use Rattle.table.specs.Reach.{mem, add, grown, rest, stuck, sweeps, closure}
use Rattle.closing.specs.Closing.{same, for_each, up_to, over_nodes, passed_to, set_edges, act_edges, node_edges, after_edges, along_edges, path_edges, entry_edges, edges, read_source, top_source, sources, dirty, is_dirty, any_dirty, kept}
use Rattle.closing.specs.Close.{map_from, unkept_arcs, kept_among, new_arc, closed_node, closed_slot, closed_proc, closed_with, close_table, close}
use Rattle.closing.specs.Program.{printed}

unfoldable pub computing : ℕ
unfolding Below.computing ℕ_discrete mem add grown rest stuck sweeps closure same for_each up_to over_nodes passed_to set_edges act_edges node_edges after_edges along_edges path_edges entry_edges edges read_source top_source sources dirty is_dirty any_dirty kept map_from unkept_arcs kept_among new_arc closed_node closed_slot closed_proc closed_with close_table close printed
computing = 0
