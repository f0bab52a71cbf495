-- A table's graphs as they are written: the nodes that count as kept are held in masks.
use Rattle.std.specs.Prelude.{ℕ, ◌≤◌, Bool, List, get_or}
use Rattle.table.specs.Mask.{bit}
use Rattle.table.specs.Table.{outside}
use Rattle.table.specs.declared.Task.{Task}
use Rattle.table.specs.declared.Proc.{Proc}
use Rattle.table.specs.declared.Table.{Table}
use Rattle.machine.specs.Step.{Kept}
use Rattle.writer.specs.Table.{ProcsIn}
use Rattle.labels.specs.Graph.{calls_text}
use Rattle.clusters.specs.Clusters.{mask_proc}

-- bit n of mask p says whether node n of procedure p counts as kept
abbrev pub mask_kept : List ℕ → Kept
mask_kept keep p n = bit n (get_or keep p 0)

abbrev pub mask_procs : Bool → List Task → ℕ → List ℕ → List Proc → ℕ → List ℕ
mask_procs closed tasks count keep procs p = mask_proc closed tasks count p (get_or keep p 0) (get_or procs p outside)

-- the arcs from the calls of procedure p to their callees
abbrev pub proc_calls : List Proc → ℕ → List ℕ
proc_calls procs p = calls_text p (get_or procs p outside)

-- the counts within which a table is drawn
pub record Drawable (t : Table) : Type 0 where
  pub tasks : t.tasks ≤ 4
  pub sems : t.sems ≤ 8
  pub queues : t.queues ≤ 8
  pub procs : ProcsIn t.proc t.procs
