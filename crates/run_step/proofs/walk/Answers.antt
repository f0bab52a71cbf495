-- The walk, by what is left of it at each turn.
use Rattle.std.proofs.Common.{rules, ℕ, ◌≡◌, ◌+◌, ◌-◌, arith, ap, subst, ◌∙◌, set, ℤ, w32, SFits, Ok, Some, None}
use Rattle.std.proofs.lemmas.Result.{err_from_is_err_and}
use Rattle.values.proofs.Again.{again}
use Rattle.tosses.specs.declared.Target.{Target}
use Rattle.run_step.specs.Walks.{Midway, spent, pass_within, stops_at, halts_there, ends_there, goes_on}
use Rattle.run_step.proofs.walk.Goals as goal

pub returns-in_err-o : goal.returns-in_err-o
returns-in_err-o c = let l = c.loop-k in
    let a = c.args in
    let p = err_from_is_err_and c.from_residual.result c.from_residual.ensures.1 in
    rw (p.1, p.2) (stops_at a.code.now a.words.now a.base a.keep a.first a.w.now a.values.now a.before a.most l.w l.n l.used (a.most - l._k) l.invariant (omega (arith, c.loop-k-test.true)) c.pass.result c.pass.ensures _ c.in_err-o.was)

pub arrive-requires : goal.arrive-requires
arrive-requires c = let l = c.loop-k in
    let a = c.args in
    pass_within a.code.now a.words.now a.base a.keep a.first a.w.now a.values.now a.before a.most l.w l.n l.used (a.most - l._k) l.invariant (omega (arith, c.loop-k-test.true)) c.pass.result c.pass.ensures c.in_ok-o.o c.in_ok-o.was

pub returns-in_err-to : goal.returns-in_err-to
returns-in_err-to c = let l = c.loop-k in
    let a = c.args in
    let o = c.in_ok-o.o in
    let f : SFits w32 o.value = search rules in
    let j = c.set_var.ensures ∙ ap (λ (z : ℤ). set l.w o.var z) (again o.value f) in
    let p = err_from_is_err_and c.from_residual-in_err-to.result c.from_residual-in_err-to.ensures.1 in
    rw (p.1, p.2) (halts_there a.code.now a.words.now a.base a.keep a.first a.w.now a.values.now a.before a.most l.w l.n l.used (a.most - l._k) l.invariant (omega (arith, c.loop-k-test.true)) c.pass.result c.pass.ensures o c.in_ok-o.was c.arrive.result c.arrive.ensures c.set_var.new.vars j _ c.in_err-to.was)

pub returns-in-Nowhere : goal.returns-in-Nowhere
returns-in-Nowhere c = let l = c.loop-k in
    let a = c.args in
    let o = c.in_ok-o.o in
    let f : SFits w32 o.value = search rules in
    let j = c.set_var.ensures ∙ ap (λ (z : ℤ). set l.w o.var z) (again o.value f) in
    ends_there a.code.now a.words.now a.base a.keep a.first a.w.now a.values.now a.before a.most l.w l.n l.used (a.most - l._k) l.invariant (omega (arith, c.loop-k-test.true)) c.pass.result c.pass.ensures o c.in_ok-o.was c.arrive.result c.arrive.ensures c.set_var.new.vars j None c.in_ok-to.u (c.in_ok-to.was ∙ ap (λ (x : Target). Ok (x, c.in_ok-to.u)) c.in-Nowhere.is)

pub returns-in-Kept : goal.returns-in-Kept
returns-in-Kept c = let l = c.loop-k in
    let a = c.args in
    let o = c.in_ok-o.o in
    let f : SFits w32 o.value = search rules in
    let j = c.set_var.ensures ∙ ap (λ (z : ℤ). set l.w o.var z) (again o.value f) in
    ends_there a.code.now a.words.now a.base a.keep a.first a.w.now a.values.now a.before a.most l.w l.n l.used (a.most - l._k) l.invariant (omega (arith, c.loop-k-test.true)) c.pass.result c.pass.ensures o c.in_ok-o.was c.arrive.result c.arrive.ensures c.set_var.new.vars j (Some c.in-Kept.m) c.in_ok-to.u (c.in_ok-to.was ∙ ap (λ (x : Target). Ok (x, c.in_ok-to.u)) c.in-Kept.is)

pub loop-k-preserved : goal.loop-k-preserved
loop-k-preserved c = let l = c.loop-k in
    let a = c.args in
    let o = c.in_ok-o.o in
    let f : SFits w32 o.value = search rules in
    let j = c.set_var.ensures ∙ ap (λ (z : ℤ). set l.w o.var z) (again o.value f) in
    let e : a.most - l._k - 1 ≡ a.most - (l._k + 1) = omega arith in
    subst (λ (d : ℕ). Midway a.code.now a.words.now a.base a.keep a.first a.w.now a.values.now a.before a.most c.set_var.new.vars c.in-Dropped.m c.in_ok-to.u d) e
    (goes_on a.code.now a.words.now a.base a.keep a.first a.w.now a.values.now a.before a.most l.w l.n l.used (a.most - l._k) l.invariant (omega (arith, c.loop-k-test.true)) c.pass.result c.pass.ensures o c.in_ok-o.was c.arrive.result c.arrive.ensures c.set_var.new.vars j c.in-Dropped.m c.in_ok-to.u (c.in_ok-to.was ∙ ap (λ (x : Target). Ok (x, c.in_ok-to.u)) c.in-Dropped.is))

pub returns : goal.returns
returns c = let l = c.loop-k in
    let a = c.args in
    spent a.code.now a.words.now a.base a.keep a.first a.w.now a.values.now a.before a.most l.w l.n l.used (a.most - l._k) l.invariant (omega (arith, c.loop-k-test.false))
