use Rattle.std.proofs.Common.{refl}
use Rattle.reader.specs.ReaderLaws.{filled_turn, read_row, read_more, read_task, judging_start, judging_stop, judging_next, judging_end}
use Rattle.reader.proofs.read.Goals as goal

pub returns-in-Err-proc_row : goal.returns-in-Err-proc_row
returns-in-Err-proc_row c = read_row c.in-Ok.ensures c.loop-i.invariant c.loop-i-test.true c.in-Err-proc_row.ensures c.refused-bad-in-Err-proc_row.ensures

pub loop-i-preserved : goal.loop-i-preserved
loop-i-preserved c = filled_turn c.loop-i.invariant c.loop-i-test.true c.in-Ok-proc_row.ensures

pub returns-then-p-s : goal.returns-then-p-s
returns-then-p-s c = read_more c.in-Ok.ensures c.loop-i.invariant c.loop-i-test.false c.if-p-s.true c.refused-bad-then-p-s.ensures

pub returns-in-Err-tasks : goal.returns-in-Err-tasks
returns-in-Err-tasks c =
    read_task c.in-Ok.ensures c.loop-i.invariant c.loop-i-test.false c.if-p-s.false c.in-Err-tasks.ensures.found refl c.refused-bad-in-Err-tasks.ensures

pub loop-i-2-init : goal.loop-i-2-init
loop-i-2-init c =
    judging_start c.in-Ok.ensures c.loop-i.invariant c.loop-i-test.false c.if-p-s.false c.in-Ok-tasks.ensures.found refl c.in-Ok-tasks.ensures.near

pub returns-in-Err-proc_at : goal.returns-in-Err-proc_at
returns-in-Err-proc_at c = judging_stop c.loop-i-2.invariant c.loop-i-2-test.true c.in-Err-proc_at.ensures.found refl c.refused-bad-in-Err-proc_at.ensures

pub loop-i-2-preserved : goal.loop-i-2-preserved
loop-i-2-preserved c = judging_next c.loop-i-2.invariant c.loop-i-2-test.true c.in-Ok-proc_at.ensures.found refl c.in-Ok-proc_at.ensures.near

pub returns : goal.returns
returns c = judging_end c.loop-i-2.invariant c.loop-i-2-test.false
