use Rattle.std.proofs.Common.{◌≡◌, refl, ◌∙◌, sym, ◌&&◌}
use Rattle.checks.specs.ArgumentChecks.{and_more, and_stop}
use Rattle.unused.specs.Unused.{spare}
use Rattle.unused.specs.UnusedLaws.{args_are}
use Rattle.unused.proofs.call_fits.Goals as goal
use Rattle.unused.proofs.call_fits.Goals.{then-spare, else-spare, then-spare-2, else-spare-2}

pub returns-then-spare-3 : goal.returns-then-spare-3
returns-then-spare-3 c =
    let two : c.if-spare.value ≡ spare c.args.xs.len 0 c.args.xs.a0 && spare c.args.xs.len 1 c.args.xs.a1 = elim c.if-spare.branch [ then-spare w ↦ and_more _ _ _ _ w.if-spare.true w.value-is c.spare.ensures w.spare-then-spare.ensures | else-spare w ↦ and_stop _ _ _ w.if-spare.false w.value-is c.spare.ensures ] in
    let three : c.if-spare-2.value ≡ (spare c.args.xs.len 0 c.args.xs.a0 && spare c.args.xs.len 1 c.args.xs.a1) && spare c.args.xs.len 2 c.args.xs.a2 = elim c.if-spare-2.branch [ then-spare-2 w ↦ and_more _ _ _ _ w.if-spare-2.true w.value-is two w.spare-then-spare-2.ensures | else-spare-2 w ↦ and_stop _ _ _ w.if-spare-2.false w.value-is two ] in
    and_more _ _ _ _ c.if-spare-3.true refl three c.spare-then-spare-3.ensures ∙ sym (args_are c.args.xs)

pub returns-else-spare-3 : goal.returns-else-spare-3
returns-else-spare-3 c =
    let two : c.if-spare.value ≡ spare c.args.xs.len 0 c.args.xs.a0 && spare c.args.xs.len 1 c.args.xs.a1 = elim c.if-spare.branch [ then-spare w ↦ and_more _ _ _ _ w.if-spare.true w.value-is c.spare.ensures w.spare-then-spare.ensures | else-spare w ↦ and_stop _ _ _ w.if-spare.false w.value-is c.spare.ensures ] in
    let three : c.if-spare-2.value ≡ (spare c.args.xs.len 0 c.args.xs.a0 && spare c.args.xs.len 1 c.args.xs.a1) && spare c.args.xs.len 2 c.args.xs.a2 = elim c.if-spare-2.branch [ then-spare-2 w ↦ and_more _ _ _ _ w.if-spare-2.true w.value-is two w.spare-then-spare-2.ensures | else-spare-2 w ↦ and_stop _ _ _ w.if-spare-2.false w.value-is two ] in
    and_stop _ _ _ c.if-spare-3.false refl three ∙ sym (args_are c.args.xs)
