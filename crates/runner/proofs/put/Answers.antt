-- `runner::put` stores the eight bytes of an entry.
use Rattle.std.proofs.Common.{arith, ◌/◌, ◌%◌, length-set}
use Rattle.runner.proofs.Bytes.{put_is}
use Rattle.runner.proofs.put.Goals as goal

pub bounds-log-at-2 : goal.bounds-log-at-2
bounds-log-at-2 c = simp length-set (omega arith)

pub bounds-log-at-3 : goal.bounds-log-at-3
bounds-log-at-3 c = simp length-set (omega arith)

pub bounds-log-at-4 : goal.bounds-log-at-4
bounds-log-at-4 c = simp length-set (omega arith)

pub bounds-log-at-5 : goal.bounds-log-at-5
bounds-log-at-5 c = simp length-set (omega arith)

pub bounds-log-at-6 : goal.bounds-log-at-6
bounds-log-at-6 c = simp length-set (omega arith)

pub bounds-log-at-7 : goal.bounds-log-at-7
bounds-log-at-7 c = simp length-set (omega arith)

pub bounds-log-at-8 : goal.bounds-log-at-8
bounds-log-at-8 c = simp length-set (omega arith)

pub returns : goal.returns
returns c = let z = c.args.bits in put_is c.args.log.now c.args.at c.args.task c.args.proc c.args.node c.args.flag (z % 256) (z / 256 % 256) (z / 65536 % 256) (z / 16777216 % 256)
