use Rattle.std.proofs.Common.{◌≡◌, w32, to_z, of_z, to_z-of_z}
use Rattle.report_values.specs.ValuesLaws.{item_first, item_next}
use Rattle.report_values.proofs.put_value.Goals as goal

pub returns-then-i-eq0 : goal.returns-then-i-eq0
returns-then-i-eq0 c = let e : to_z w32 (of_z w32 c.args.v) ≡ c.args.v = to_z-of_z {w = w32} c.ranges.v in item_first c.args.v c.if-i-eq0.true (rw e at c.put_constant.ensures)

pub returns : goal.returns
returns c = let e : to_z w32 (of_z w32 c.args.v) ≡ c.args.v = to_z-of_z {w = w32} c.ranges.v in item_next c.args.v c.if-i-eq0.false c.put_byte-a.ensures (rw e at c.put_constant-2.ensures)
