-- `runner::advance` runs a schedule as `run_from` says, for every table and state that the arrays hold.
use Rattle.std.proofs.Common.{arith, ◌≡◌, ◌∷◌, ℕ, ◌-◌, ◌<◌, sym, ap, subst, ◌∙◌, length, get_or, drop, length-drop, Ok, Err}
use lib.Seq.{sets, get_or-drop}
use Rattle.table.specs.declared.Table.{Table}
use Rattle.machine.specs.declared.State.{State}
use Rattle.machine.specs.Step.{kept_in, step}
use Rattle.machine.specs.Run.{word}
use Rattle.run_step.specs.Steps.{Held, Steps}
use Rattle.runner.specs.Advances.{stop_before}
use Rattle.runner.proofs.Turns.{ends_last, ends_before, asked, ends_step, turned, turning_next}
use Rattle.runner.proofs.advance.Goals as goal

pub returns-in-Err : goal.returns-in-Err
returns-in-Err c = let v = c.loop-k.invariant in
    let l = c.args.schedule.now in
    let i = c.loop-k.k-index in
    let at : get_or (drop i l) 0 0 ≡ get_or l i 0 = get_or-drop i l 0 0 ∙ ap (λ (n : ℕ). get_or l n 0) (omega arith) in
    let some : length (drop i l) ≡ 0 → ⊥ = λ e. omega (arith, e, length-drop i l, c.loop-k-test.true) in
    let b = ap (λ (k : ℕ). stop_before k c.loop-k.marks (length c.loop-k.log - c.loop-k.at)) at ∙ sym c.before-in-loop-k.ensures in
    rw c.halted.ensures (ends_before _ _ _ _ _ _ _ _ _ _ v some c.in-Err.stop (b ∙ c.in-Err.is))

pub step-requires : goal.step-requires
step-requires c = let v = c.loop-k.invariant in
    let l = c.args.schedule.now in
    let i = c.loop-k.k-index in
    let at : get_or (drop i l) 0 0 ≡ get_or l i 0 = get_or-drop i l 0 0 ∙ ap (λ (n : ℕ). get_or l n 0) (omega arith) in
    let some : length (drop i l) ≡ 0 → ⊥ = λ e. omega (arith, e, length-drop i l, c.loop-k-test.true) in
    let b = ap (λ (k : ℕ). stop_before k c.loop-k.marks (length c.loop-k.log - c.loop-k.at)) at ∙ sym c.before-in-loop-k.ensures in
    (asked _ _ _ _ _ _ _ _ _ _ v some (b ∙ c.in_default.is) (get_or l i 0) (sym at), v.within)

pub returns-in-Err-step : goal.returns-in-Err-step
returns-in-Err-step c = let v = c.loop-k.invariant in
    let l = c.args.schedule.now in
    let i = c.loop-k.k-index in
    let at : get_or (drop i l) 0 0 ≡ get_or l i 0 = get_or-drop i l 0 0 ∙ ap (λ (n : ℕ). get_or l n 0) (omega arith) in
    let some : length (drop i l) ≡ 0 → ⊥ = λ e. omega (arith, e, length-drop i l, c.loop-k-test.true) in
    let b = ap (λ (k : ℕ). stop_before k c.loop-k.marks (length c.loop-k.log - c.loop-k.at)) at ∙ sym c.before-in-loop-k.ensures in
    let did = subst
    (λ (k : ℕ). (t : Table) (s : State) → Held t s c.args.keep.now c.args.code.now c.args.words.now c.loop-k.marks c.loop-k.cells → k < t.tasks → Steps c.args.values.now s (step t (kept_in t) c.args.most s k (drop c.loop-k.used c.args.values.now)) (Err c.in-Err-step.stop) c.step.new.marks c.step.new.cells)
    (sym at) c.in-Err-step.ensures in
    rw c.halted-in-Err-step.ensures (ends_step _ _ _ _ _ _ _ _ _ _ v some (b ∙ c.in_default.is) c.in-Err-step.stop _ _ did)

pub loop-k-preserved : goal.loop-k-preserved
loop-k-preserved c = let v = c.loop-k.invariant in
    let l = c.args.schedule.now in
    let i = c.loop-k.k-index in
    let at : get_or (drop i l) 0 0 ≡ get_or l i 0 = get_or-drop i l 0 0 ∙ ap (λ (n : ℕ). get_or l n 0) (omega arith) in
    let some : length (drop i l) ≡ 0 → ⊥ = λ e. omega (arith, e, length-drop i l, c.loop-k-test.true) in
    let b = ap (λ (k : ℕ). stop_before k c.loop-k.marks (length c.loop-k.log - c.loop-k.at)) at ∙ sym c.before-in-loop-k.ensures in
    let did = subst
    (λ (k : ℕ). (t : Table) (s : State) → Held t s c.args.keep.now c.args.code.now c.args.words.now c.loop-k.marks c.loop-k.cells → k < t.tasks → Steps c.args.values.now s (step t (kept_in t) c.args.most s k (drop c.loop-k.used c.args.values.now)) (Ok c.in-Ok.e) c.step.new.marks c.step.new.cells)
    (sym at) c.in-Ok.ensures in
    let e = c.in-Ok.e in
    let puts = c.put.ensures ∙ (λ j. sets c.loop-k.log c.loop-k.at (sym at j ∷ e.proc ∷ e.node ∷ (c.logged-flag.ensures j).0 ∷ word (c.logged-flag.ensures j).1)) in
    turning_next _ _ _ _ _ _ _ _ _ _ i (turned _ _ _ _ _ _ _ _ _ _ v some (b ∙ c.in_default.is) e _ _ did c.put.new.log puts)

pub returns : goal.returns
returns c = let v = c.loop-k.invariant in
    let l = c.args.schedule.now in
    let i = c.loop-k.k-index in
    ends_last _ _ _ _ _ _ _ _ _ _ v (omega (arith, length-drop i l, c.loop-k-test.false))
