-- The two arrays that hold a state while it is stepped.
use Rattle.std.specs.Prelude.{ℕ, Bool, List, ◌++◌, map, replicate, ℤ, pos}
use Rattle.table.specs.Mask.{pick}
use Rattle.machine.specs.declared.Frame.{Frame}
use Rattle.machine.specs.declared.Entries.{Entries}
use Rattle.machine.specs.declared.State.{State}

abbrev pub lost_mark : Bool → ℕ
lost_mark b = pick b 1 0

-- from 0 on the frames open of each task, from 4 on whether it is lost, from 8 on the semaphores' counts, from 16 on the queues' lengths, from 24 on eight
-- bytes that are 0, from 32 on the frames' procedures, from 64 on their nodes
unfoldable pub marks_of : State → List ℕ
marks_of s =
    s.depth ++ (map lost_mark s.lost ++ (s.sems ++ (map (λ (e : Entries). e.len) s.queues ++ (replicate 8 0 ++ (map (λ (f : Frame). f.proc) s.frames ++ map (λ (f : Frame). f.node) s.frames)))))

-- a queue's entries, and eight cells that are 0
abbrev pub entry_cells : Entries → List ℤ
entry_cells e = e.items ++ replicate 8 (pos 0)

-- the frames' variables, and from row 32 on the queues' entries
unfoldable pub cells_of : State → List (List ℤ)
cells_of s = map (λ (f : Frame). f.vars) s.frames ++ map entry_cells s.queues
