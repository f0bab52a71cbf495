-- `run_state::input` answers the value at a place, or 0.
use Rattle.std.proofs.Common.{rules, ◌<◌, length, refl, w32, to_z-of_z}
use Rattle.run_state.proofs.input.Goals as goal

pub offset_bounds-values-at : goal.offset_bounds-values-at
offset_bounds-values-at c = let h : c.args.at < length c.args.values.now = c.requires c.if-on.true in search rules

pub bounds-values-at : goal.bounds-values-at
bounds-values-at c = c.requires c.if-on.true

pub returns-then-on : goal.returns-then-on
returns-then-on c = rw c.if-on.true (to_z-of_z {w = w32} (record { sfits = c.result-1.given }))

pub returns-else-on : goal.returns-else-on
returns-else-on c = rw c.if-on.false refl
