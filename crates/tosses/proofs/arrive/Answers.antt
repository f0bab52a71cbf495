-- `tosses::arrive` takes an arc as `arrived_of` says, by the number of its targets.
use Rattle.std.proofs.Common.{arith}
use Rattle.tosses.proofs.Arcs.{low_lt, one_target, more_targets, arrives_nowhere, arrives_at, arrives_tossed}
use Rattle.tosses.proofs.arrive.Goals as goal

pub returns-then-arc-eq0 : goal.returns-then-arc-eq0
returns-then-arc-eq0 c = arrives_nowhere c.args.arc c.args.keep c.args.values.now c.args.used c.if-arc-eq0.true

pub met-requires : goal.met-requires
met-requires c = low_lt c.args.arc (omega (arith, c.ranges.arc.fits)) c.if-arc-eq0.false

pub returns-then-arc-eq0-2 : goal.returns-then-arc-eq0-2
returns-then-arc-eq0-2 c = arrives_at c.args.arc c.args.keep c.args.values.now c.args.used _ (one_target c.args.arc (omega (arith, c.ranges.arc.fits)) c.if-arc-eq0.false c.if-arc-eq0-2.true) c.met.ensures

pub returns : goal.returns
returns c = let m = more_targets c.args.arc (omega (arith, c.ranges.arc.fits)) c.if-arc-eq0.false c.if-arc-eq0-2.false in arrives_tossed c.args.arc c.args.keep c.args.values.now c.args.used m.0 m.1 m.2 m.3 c.toss.ensures
