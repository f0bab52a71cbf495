use Rattle.std.proofs.Common.{refl, rules}
use Rattle.reached.specs.SearchLaws.{search_start, search_next, search_less, search_end}
use Rattle.reached.proofs.nodes.Goals as goal

pub loop-done-init : goal.loop-done-init
loop-done-init c = search_start _

pub loop-done-smaller : goal.loop-done-smaller
loop-done-smaller c = search_less _ c.loop-done.invariant c.loop-done-test.true c.next-n.ensures c.targets-seen.ensures (search rules) refl c.with-done.ensures

pub loop-done-preserved : goal.loop-done-preserved
loop-done-preserved c = search_next _ c.loop-done.invariant c.loop-done-test.true c.next-n.ensures c.targets-seen.ensures (search rules) refl c.with-done.ensures

pub returns : goal.returns
returns c = search_end _ c.loop-done.invariant c.loop-done-test.false
