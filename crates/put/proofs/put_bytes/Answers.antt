use Rattle.std.proofs.Common.{arith, rules}
use Rattle.put.specs.PutLaws.{put_skip, put_cut}
use Rattle.put.proofs.put_bytes.Goals as goal

pub returns-then-out-at : goal.returns-then-out-at
returns-then-out-at c = search (rules, put_skip)

pub returns : goal.returns
returns c = put_cut (omega arith) (omega arith) c.fill_text-2.ensures
