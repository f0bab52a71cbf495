-- The line `steps=S used=U stop=N`, number by number; where one is missing, no such line stands there.
use Rattle.reasons.specs.ReasonLaws.{count_least, count_most, count_not, count_but, count_then, feed_fails, feed_stands, stop_is}
use Rattle.reasons.proofs.stop.Goals as goal

pub returns-in_err-k : goal.returns-in_err-k
returns-in_err-k c = rw c.from_residual.ensures (count_not c.in_err-k.ensures)

pub returns-in_err-b : goal.returns-in_err-b
returns-in_err-b c = rw c.from_residual-in_err-b.ensures (count_but c.in_ok-k.ensures (count_not c.in_err-b.ensures))

pub returns-in_err-n : goal.returns-in_err-n
returns-in_err-n c = rw c.from_residual-in_err-n.ensures (count_but c.in_ok-k.ensures (count_but c.in_ok-b.ensures (count_not c.in_err-n.ensures)))

pub returns-in_default : goal.returns-in_default
returns-in_default c = count_but c.in_ok-k.ensures (count_but c.in_ok-b.ensures (count_but c.in_ok-n.ensures (feed_fails c.in_default.ensures)))

pub returns : goal.returns
returns c = stop_is (count_then c.in_ok-k.ensures (count_then c.in_ok-b.ensures (count_then c.in_ok-n.ensures (feed_stands c.in-Ok.ensures)))) (count_least c.in_ok-n.ensures) (count_most c.in_ok-n.ensures)
