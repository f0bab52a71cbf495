use Rattle.std.proofs.Common.{refl, arith}
use Rattle.dot.proofs.put_box_mark.Goals as goal

pub returns-then-seen : goal.returns-then-seen
returns-then-seen c = rw c.if-seen.true (record { few = omega arith; bytes = refl; same = refl; next = omega arith })

pub returns : goal.returns
returns c = rw c.if-seen.false c.put_text.ensures
