use Rattle.std.proofs.Common.{◌≡◌, w32, to_z, of_z, to_z-of_z, arith}
use Rattle.report_values.specs.ValuesLaws.{listing_none, listing_start, listing_turn, listing_end}
use Rattle.report_values.proofs.put_values.Goals as goal

pub returns-then-n-eq0 : goal.returns-then-n-eq0
returns-then-n-eq0 c = listing_none c.args.l.now c.if-n-eq0.true c.put_text.ensures

pub loop-i-init : goal.loop-i-init
loop-i-init c = listing_start

pub put_value-p-requires : goal.put_value-p-requires
put_value-p-requires c = omega (arith, c.loop-i.invariant.put.few, c.loop-i.invariant.put.next)

pub loop-i-preserved : goal.loop-i-preserved
loop-i-preserved c = let z = c.value_at.result in let e : to_z w32 (of_z w32 z) ≡ z = to_z-of_z {w = w32} (record { sfits = c.value_at.type_inv }) in listing_turn c.loop-i.invariant c.value_at.ensures (rw e at c.put_value-p.ensures)

pub returns : goal.returns
returns c = listing_end c.loop-i.invariant c.loop-i.auto.i-end (omega arith) c.if-n-eq0.false (omega arith)
