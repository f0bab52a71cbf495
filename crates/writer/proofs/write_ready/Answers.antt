use Rattle.writer.specs.TableLaws.{ready_large, ready_short, ready_whole}
use Rattle.writer.proofs.write_ready.Goals as goal

pub returns-then-out-ge65536 : goal.returns-then-out-ge65536
returns-then-out-ge65536 c = ready_large c.if-out-ge65536.true c.put_table-len.ensures

pub returns-then-out-need : goal.returns-then-out-need
returns-then-out-need c = ready_short c.put_table-need.ensures c.if-out-need.true

pub returns : goal.returns
returns c = ready_whole c.put_table-need.ensures c.if-out-need.false c.put_table-len-2.ensures
