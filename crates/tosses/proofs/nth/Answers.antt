-- Each turn takes the lowest number out of the mask.
use Rattle.std.proofs.Common.{◌≡◌, ℕ, suc, ◌+◌, ◌-◌, arith, sym, ap, ◌∙◌}
use Rattle.std.specs.Prelude.{slice_get}
use lib.Bits.{and_le_r}
use Rattle.table.specs.Mask.{members}
use Rattle.tosses.proofs.Leaves.{nth_none, nth_lowest, nth_others}
use Rattle.tosses.proofs.nth.Goals as goal

pub returns-then-rest-eq0 : goal.returns-then-rest-eq0
returns-then-rest-eq0 c = let h = c.loop-k in
    sym (h.invariant.1 ∙ ap (λ (m : ℕ). slice_get (members m) (c.args.i - h._k)) c.if-rest-eq0.true ∙ nth_none (c.args.i - h._k))

pub returns-then-rest-eq0-2 : goal.returns-then-rest-eq0-2
returns-then-rest-eq0-2 c = let h = c.loop-k in
    sym (h.invariant.1 ∙ ap (λ (m : ℕ). slice_get (members m) (c.args.i - h._k)) c.if-rest-eq0-2.true ∙ nth_none (c.args.i - h._k))

pub returns-else-rest-eq0-2 : goal.returns-else-rest-eq0-2
returns-else-rest-eq0-2 c = let h = c.loop-k in
    let e : c.args.i - h._k ≡ 0 = omega (arith, c.loop-k-test.false) in
    nth_lowest h.rest h.invariant.0 c.if-rest-eq0-2.false ∙ sym (h.invariant.1 ∙ ap (slice_get (members h.rest)) e)

pub loop-k-preserved : goal.loop-k-preserved
loop-k-preserved c = let h = c.loop-k in
    let e : c.args.i - h._k ≡ suc (c.args.i - (h._k + 1)) = omega (arith, c.loop-k-test.true) in
    (omega (arith, and_le_r h.rest (h.rest - 1)), h.invariant.1 ∙ ap (slice_get (members h.rest)) e ∙ nth_others h.rest h.invariant.0 c.if-rest-eq0.false (c.args.i - (h._k + 1)))
