use Rattle.std.proofs.Common.{◌≡◌, refl, ◌∙◌, sym, ◌&&◌}
use Rattle.checks.specs.ArgumentChecks.{declared_at, declared_is, and_more, and_stop}
use Rattle.checks.proofs.all_declared.Goals as goal
use Rattle.checks.proofs.all_declared.Goals.{then-declared_at, else-declared_at, then-declared_at-2, else-declared_at-2}

pub returns-then-declared_at-3 : goal.returns-then-declared_at-3
returns-then-declared_at-3 c =
    let two : c.if-declared_at.value ≡ declared_at c.args.vars c.args.xs.len 0 c.args.xs.a0 && declared_at c.args.vars c.args.xs.len 1 c.args.xs.a1 = elim c.if-declared_at.branch [ then-declared_at w ↦ and_more _ _ _ _ w.if-declared_at.true w.value-is c.declared_at.ensures w.declared_at-then-declared_at.ensures | else-declared_at w ↦ and_stop _ _ _ w.if-declared_at.false w.value-is c.declared_at.ensures ] in
    let three : c.if-declared_at-2.value ≡ (declared_at c.args.vars c.args.xs.len 0 c.args.xs.a0 && declared_at c.args.vars c.args.xs.len 1 c.args.xs.a1) && declared_at c.args.vars c.args.xs.len 2 c.args.xs.a2 = elim c.if-declared_at-2.branch [ then-declared_at-2 w ↦ and_more _ _ _ _ w.if-declared_at-2.true w.value-is two w.declared_at-then-declared_at-2.ensures | else-declared_at-2 w ↦ and_stop _ _ _ w.if-declared_at-2.false w.value-is two ] in
    and_more _ _ _ _ c.if-declared_at-3.true refl three c.declared_at-then-declared_at-3.ensures ∙ sym (declared_is c.args.vars c.args.xs)

pub returns-else-declared_at-3 : goal.returns-else-declared_at-3
returns-else-declared_at-3 c =
    let two : c.if-declared_at.value ≡ declared_at c.args.vars c.args.xs.len 0 c.args.xs.a0 && declared_at c.args.vars c.args.xs.len 1 c.args.xs.a1 = elim c.if-declared_at.branch [ then-declared_at w ↦ and_more _ _ _ _ w.if-declared_at.true w.value-is c.declared_at.ensures w.declared_at-then-declared_at.ensures | else-declared_at w ↦ and_stop _ _ _ w.if-declared_at.false w.value-is c.declared_at.ensures ] in
    let three : c.if-declared_at-2.value ≡ (declared_at c.args.vars c.args.xs.len 0 c.args.xs.a0 && declared_at c.args.vars c.args.xs.len 1 c.args.xs.a1) && declared_at c.args.vars c.args.xs.len 2 c.args.xs.a2 = elim c.if-declared_at-2.branch [ then-declared_at-2 w ↦ and_more _ _ _ _ w.if-declared_at-2.true w.value-is two w.declared_at-then-declared_at-2.ensures | else-declared_at-2 w ↦ and_stop _ _ _ w.if-declared_at-2.false w.value-is two ] in
    and_stop _ _ _ c.if-declared_at-3.false refl three ∙ sym (declared_is c.args.vars c.args.xs)
