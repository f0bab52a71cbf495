-- The line `refused=N line=L`, number by number; where one is missing, no such line stands there.
use Rattle.reasons.specs.ReasonLaws.{count_least, count_most, count_not, count_but, count_then, feed_fails, feed_stands}
use Rattle.reasons.proofs.refusal.Goals as goal

pub returns-in_err-n : goal.returns-in_err-n
returns-in_err-n c = rw c.from_residual.ensures (count_not c.in_err-n.ensures)

pub returns-in_err-l : goal.returns-in_err-l
returns-in_err-l c = rw c.from_residual-in_err-l.ensures (count_but c.in_ok-n.ensures (count_not c.in_err-l.ensures))

pub returns-in_default : goal.returns-in_default
returns-in_default c = count_but c.in_ok-n.ensures (count_but c.in_ok-l.ensures (feed_fails c.in_default.ensures))

pub returns : goal.returns
returns c = record { stands = count_then c.in_ok-n.ensures (count_then c.in_ok-l.ensures (feed_stands c.in-Ok.ensures)); low = count_least c.in_ok-n.ensures; high = count_most c.in_ok-n.ensures }
