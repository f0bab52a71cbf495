use Rattle.std.proofs.Common.{◌≡◌, refl, ◌∙◌, sym, ◌||◌}
use Rattle.checks.specs.ArgumentChecks.{removed_at, removed_is, or_more, or_stop}
use Rattle.checks.proofs.some_removed.Goals as goal
use Rattle.checks.proofs.some_removed.Goals.{then-removed_at, else-removed_at, then-removed_at-2, else-removed_at-2}

pub returns-then-removed_at-3 : goal.returns-then-removed_at-3
returns-then-removed_at-3 c =
    let two : c.if-removed_at.value ≡ removed_at c.args.xs.len 0 c.args.xs.a0 || removed_at c.args.xs.len 1 c.args.xs.a1 = elim c.if-removed_at.branch [ else-removed_at w ↦ or_more _ _ _ _ w.if-removed_at.false w.value-is c.removed_at.ensures w.removed_at-else-removed_at.ensures | then-removed_at w ↦ or_stop _ _ _ w.if-removed_at.true w.value-is c.removed_at.ensures ] in
    let three : c.if-removed_at-2.value ≡ (removed_at c.args.xs.len 0 c.args.xs.a0 || removed_at c.args.xs.len 1 c.args.xs.a1) || removed_at c.args.xs.len 2 c.args.xs.a2 = elim c.if-removed_at-2.branch [ else-removed_at-2 w ↦ or_more _ _ _ _ w.if-removed_at-2.false w.value-is two w.removed_at-else-removed_at-2.ensures | then-removed_at-2 w ↦ or_stop _ _ _ w.if-removed_at-2.true w.value-is two ] in
    or_stop _ _ _ c.if-removed_at-3.true refl three ∙ sym (removed_is c.args.xs)

pub returns-else-removed_at-3 : goal.returns-else-removed_at-3
returns-else-removed_at-3 c =
    let two : c.if-removed_at.value ≡ removed_at c.args.xs.len 0 c.args.xs.a0 || removed_at c.args.xs.len 1 c.args.xs.a1 = elim c.if-removed_at.branch [ else-removed_at w ↦ or_more _ _ _ _ w.if-removed_at.false w.value-is c.removed_at.ensures w.removed_at-else-removed_at.ensures | then-removed_at w ↦ or_stop _ _ _ w.if-removed_at.true w.value-is c.removed_at.ensures ] in
    let three : c.if-removed_at-2.value ≡ (removed_at c.args.xs.len 0 c.args.xs.a0 || removed_at c.args.xs.len 1 c.args.xs.a1) || removed_at c.args.xs.len 2 c.args.xs.a2 = elim c.if-removed_at-2.branch [ else-removed_at-2 w ↦ or_more _ _ _ _ w.if-removed_at-2.false w.value-is two w.removed_at-else-removed_at-2.ensures | then-removed_at-2 w ↦ or_stop _ _ _ w.if-removed_at-2.true w.value-is two ] in
    or_more _ _ _ _ c.if-removed_at-3.false refl three c.removed_at-else-removed_at-3.ensures ∙ sym (removed_is c.args.xs)
