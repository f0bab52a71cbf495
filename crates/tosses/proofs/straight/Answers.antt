-- An arc with no target, with more than one, or with the one that is kept or dropped.
use Rattle.std.proofs.Common.{arith}
use Rattle.tosses.proofs.Arcs.{one_target, more_targets, straight_none, straight_more, straight_kept, straight_dropped}
use Rattle.tosses.proofs.straight.Goals as goal
use Rattle.tosses.proofs.straight.Goals.{then-arc-eq0-via-then-arc-eq0, then-arc-eq0-via-else-arc-eq0+then-arc-ne0}

pub returns-then-arc-eq0 : goal.returns-then-arc-eq0
returns-then-arc-eq0 c =
    elim c.then-arc-eq0.branch [
      | then-arc-eq0-via-then-arc-eq0 w ↦ straight_none c.args.arc c.args.keep w.if-arc-eq0.true
      | then-arc-eq0-via-else-arc-eq0+then-arc-ne0 w ↦ let m = more_targets c.args.arc (omega (arith, c.ranges.arc.fits)) w.if-arc-eq0.false w.if-arc-ne0.true in straight_more c.args.arc c.args.keep m.0 m.1 m.2 m.3
    ]

pub returns-then-keep-low-eq1 : goal.returns-then-keep-low-eq1
returns-then-keep-low-eq1 c = straight_kept c.args.arc c.args.keep _ (one_target c.args.arc (omega (arith, c.ranges.arc.fits)) c.if-arc-eq0.false c.if-arc-ne0.false) c.if-keep-low-eq1.true

pub returns-else-keep-low-eq1 : goal.returns-else-keep-low-eq1
returns-else-keep-low-eq1 c = straight_dropped c.args.arc c.args.keep _ (one_target c.args.arc (omega (arith, c.ranges.arc.fits)) c.if-arc-eq0.false c.if-arc-ne0.false) c.if-keep-low-eq1.false
