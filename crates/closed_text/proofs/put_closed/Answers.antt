-- The loop's invariant: the procedures passed stand, closed, behind the lines before them.
use Rattle.std.proofs.Common.{arith}
use Rattle.put.specs.RowLaws.{rows_start}
use Rattle.text.proofs.ShapeLaws.{shaped}
use Rattle.closer.specs.TableLaws.{counted}
use Rattle.closed_text.specs.ClosedLaws.{closable, front_in, procs_few, proc_in, proc_put, closed_put}
use Rattle.closed_text.proofs.put_closed.Goals as goal

pub dirty_cells-cells-requires : goal.dirty_cells-cells-requires
dirty_cells-cells-requires c = (closable c.args.t (shaped c.args.t (_, c.well_formed.1.0)) c.requires.0 c.requires.1).open_ready

pub put_front-p-requires : goal.put_front-p-requires
put_front-p-requires c = front_in _ (closable c.args.t (shaped c.args.t (_, c.well_formed.1.0)) c.requires.0 c.requires.1) _

pub loop-i-init : goal.loop-i-init
loop-i-init c = record { closable = closable c.args.t (shaped c.args.t (_, c.well_formed.1.0)) c.requires.0 c.requires.1; rows = rows_start }

pub offset_bounds-t-k : goal.offset_bounds-t-k
offset_bounds-t-k c = omega (arith, procs_few _ c.loop-i.invariant.closable)

pub bounds-t-k : goal.bounds-t-k
bounds-t-k c = omega (arith, procs_few _ c.loop-i.invariant.closable)

pub closed_proc-c-requires : goal.closed_proc-c-requires
closed_proc-c-requires c = let a = c.loop-i.invariant.closable in (omega (arith, procs_few _ a), counted _ a.open_ready _)

pub put_proc-p-requires : goal.put_proc-p-requires
put_proc-p-requires c =
    let h = c.loop-i.invariant in
    let f = c.put_front-p.ensures in
    (omega (arith, h.rows.put.few, h.rows.put.next, f.few, f.next, procs_few _ h.closable), proc_in _ h.closable _ c.dirty_cells-cells.ensures c.loop-i.i c.loop-i-test.true _ c.closed_proc-c.ensures)

pub loop-i-preserved : goal.loop-i-preserved
loop-i-preserved c =
    let h = c.loop-i.invariant in
    record { closable = h.closable; rows = proc_put _ h.closable _ c.dirty_cells-cells.ensures _ c.loop-i-test.true h.rows c.closed_proc-c.ensures c.put_proc-p.ensures }

pub shape_of-out : goal.shape_of-out
shape_of-out c = omega (arith, c.loop-i.invariant.rows.put.same, c.put_front-p.ensures.same)

pub returns : goal.returns
returns c =
    let h = c.loop-i.invariant in
    closed_put _ h.closable _ c.dirty_cells-cells.ensures _ c.closed_queues.ensures c.put_front-p.ensures h.rows (omega arith) c.loop-i-test.false
