-- A dropped node is executed as its rows say.
use Rattle.std.proofs.Common.{Ok, ap, ◌∙◌, inl, inr, ℕ, ℤ, pos}
use Rattle.table.specs.Table.{removed}
use Rattle.run_code.specs.Code.{byte}
use Rattle.values.proofs.Again.{again}
use Rattle.run_step.specs.declared.Effect.{Effect}
use Rattle.run_step.specs.Effects.{goes_to}
use Rattle.run_step.specs.EffectLaws.{result_of, pass_set, pass_test, pass_read, pass_other}
use Rattle.run_step.proofs.Leaves.{branch_is}
use Rattle.run_step.proofs.pass.Goals as goal
use Rattle.run_step.proofs.pass.Goals.{then-x-eq0, else-x-eq0}

pub returns-in-2 : goal.returns-in-2
returns-in-2 c = let a = c.args in
    let x = c.computed-x in
    ap (λ (o : Effect). Ok o) c.goes.ensures
    ∙ ap (λ (z : ℤ). Ok (goes_to (byte a.code.now 4) z a.used (byte a.words.now 2) 0)) (again x.result (record { sfits = x.type_inv }) ∙ x.ensures)
    ∙ pass_set a.code.now a.words.now a.vars.now a.values.now a.used c.in-2.is

pub returns-after-x-eq0 : goal.returns-after-x-eq0
returns-after-x-eq0 c = let a = c.args in
    let x = c.computed-x-in-3 in
    let z = result_of a.code.now a.words.now a.vars.now in
    let arc = branch_is x.result z (byte a.words.now 2) (byte a.words.now 3) c.if-x-eq0.arc (record { sfits = x.type_inv }) x.ensures (elim c.if-x-eq0.branch [ then-x-eq0 w ↦ inl (w.if-x-eq0.true, w.arc-is) | else-x-eq0 w ↦ inr (w.if-x-eq0.false, w.arc-is) ]) in
    ap (λ (o : Effect). Ok o) c.goes-in-3.ensures
    ∙ ap (λ (m : ℕ). Ok (goes_to removed (pos 0) a.used m 0)) arc
    ∙ pass_test a.code.now a.words.now a.vars.now a.values.now a.used c.in-3.is

pub returns-in-4 : goal.returns-in-4
returns-in-4 c = let a = c.args in
    c.read.ensures ∙ pass_read a.code.now a.words.now a.vars.now a.values.now a.used c.in-4.is

pub returns-in_default : goal.returns-in_default
returns-in_default c = let a = c.args in
    let n = c.in_default.in_default-own.rest in
    ap (λ (o : Effect). Ok o) c.goes-in_default.ensures ∙ pass_other a.code.now a.words.now a.vars.now a.values.now a.used n.0.0.1 n.0.1 n.1 c.requires.1.1
