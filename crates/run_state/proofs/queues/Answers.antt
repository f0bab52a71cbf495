-- `run_state::queues` answers the queues' entries that the arrays hold, one at each place.
use Rattle.std.proofs.Common.{[], arith, refl, ◌+◌}
use Rattle.run_state.specs.Begins.{queue_of}
use Rattle.table.specs.Places.{fill}
use Rattle.run_state.proofs.queues.Goals as goal

pub loop-i-init : goal.loop-i-init
loop-i-init c = (refl, λ j h. absurd (omega arith))

pub entries-requires : goal.entries-requires
entries-requires c = c.requires (32 + c.loop-i.i) (omega arith)

pub loop-i-preserved : goal.loop-i-preserved
loop-i-preserved c = let l = c.loop-i in
    let a = c.args in
    fill (record { len = 0; items = [] }) 8 (queue_of a.marks.now a.cells.now) l.r l.i _ (omega arith) c.entries.ensures l.invariant

pub returns : goal.returns
returns c = let l = c.loop-i in
    record { long = l.invariant.0; places = λ j k. l.invariant.1 j (omega arith) }
