-- An arc is taken, and dropped nodes are walked over until a kept one is met.
use Rattle.std.proofs.Common.{rules, [], ap, ◌∙◌, get_or, set, ℤ, w32, SFits, Ok, Some, None}
use Rattle.std.proofs.lemmas.Result.{err_from_is_err_and}
use Rattle.values.proofs.Again.{again}
use Rattle.tosses.specs.declared.Target.{Target}
use Rattle.run_step.specs.GoLaws.{proc_low, vars_long, walks, arc_stays, over_lands, walk_stays, walk_lands}
use Rattle.run_step.proofs.go_far.Goals as goal

pub bounds-keep-p : goal.bounds-keep-p
bounds-keep-p c = let a = c.args in
    let p = c.requires in
    proc_low p.t p.s a.keep.now a.code.now a.marks.now p.going.held.marked a.g p.going.frame

pub returns-in_err-to : goal.returns-in_err-to
returns-in_err-to c = let a = c.args in
    let p = err_from_is_err_and c.from_residual.result c.from_residual.ensures.1 in
    rw (p.1, p.2) (λ t s going. arc_stays a.keep.now a.code.now a.words.now a.marks.now a.cells.now a.values.now a.g a.o a.most c.arrive.result c.arrive.ensures t s going _ c.in_err-to.was)

pub set_var-requires : goal.set_var-requires
set_var-requires c = let a = c.args in
    let p = c.requires in
    vars_long p.t p.s a.keep.now a.code.now a.words.now a.marks.now a.cells.now p.going.held a.g p.going.frame

pub set_var-requires-in-Kept : goal.set_var-requires-in-Kept
set_var-requires-in-Kept c = let a = c.args in
    let p = c.requires in
    vars_long p.t p.s a.keep.now a.code.now a.words.now a.marks.now a.cells.now p.going.held a.g p.going.frame

pub set_var-requires-in-Dropped : goal.set_var-requires-in-Dropped
set_var-requires-in-Dropped c = let a = c.args in
    let p = c.requires in
    vars_long p.t p.s a.keep.now a.code.now a.words.now a.marks.now a.cells.now p.going.held a.g p.going.frame

pub returns-in-Nowhere : goal.returns-in-Nowhere
returns-in-Nowhere c = let a = c.args in
    let f : SFits w32 a.o.value = search rules in
    let j = c.set_var.ensures ∙ ap (λ (z : ℤ). set (get_or a.cells.now a.g []) a.o.var z) (again a.o.value f) in
    rw c.stand.ensures (λ t s going. over_lands a.keep.now a.code.now a.words.now a.marks.now a.cells.now a.values.now a.g a.o a.most c.arrive.result c.arrive.ensures t s going c.set_var.new.vars j None c.in_ok-to.used (c.in_ok-to.was ∙ ap (λ (x : Target). Ok (x, c.in_ok-to.used)) c.in-Nowhere.is))

pub returns-in-Kept : goal.returns-in-Kept
returns-in-Kept c = let a = c.args in
    let f : SFits w32 a.o.value = search rules in
    let j = c.set_var-in-Kept.ensures ∙ ap (λ (z : ℤ). set (get_or a.cells.now a.g []) a.o.var z) (again a.o.value f) in
    rw c.stand-in-Kept.ensures (λ t s going. over_lands a.keep.now a.code.now a.words.now a.marks.now a.cells.now a.values.now a.g a.o a.most c.arrive.result c.arrive.ensures t s going c.set_var-in-Kept.new.vars j (Some c.in-Kept.n) c.in_ok-to.used (c.in_ok-to.was ∙ ap (λ (x : Target). Ok (x, c.in_ok-to.used)) c.in-Kept.is))

pub walk-requires : goal.walk-requires
walk-requires c = let a = c.args in
    let f : SFits w32 a.o.value = search rules in
    let j = c.set_var-in-Dropped.ensures ∙ ap (λ (z : ℤ). set (get_or a.cells.now a.g []) a.o.var z) (again a.o.value f) in
    walks a.keep.now a.code.now a.words.now a.marks.now a.cells.now a.values.now a.g a.o a.most c.arrive.result c.arrive.ensures c.requires.t c.requires.s c.requires.going c.set_var-in-Dropped.new.vars j c.in-Dropped.n c.in_ok-to.used (c.in_ok-to.was ∙ ap (λ (x : Target). Ok (x, c.in_ok-to.used)) c.in-Dropped.is)

pub returns-in_err-at-in-Dropped : goal.returns-in_err-at-in-Dropped
returns-in_err-at-in-Dropped c = let a = c.args in
    let f : SFits w32 a.o.value = search rules in
    let j = c.set_var-in-Dropped.ensures ∙ ap (λ (z : ℤ). set (get_or a.cells.now a.g []) a.o.var z) (again a.o.value f) in
    let p = err_from_is_err_and c.from_residual-in_err-at-in-Dropped.result c.from_residual-in_err-at-in-Dropped.ensures.1 in
    rw (p.1, p.2) (λ t s going. walk_stays a.keep.now a.code.now a.words.now a.marks.now a.cells.now a.values.now a.g a.o a.most c.arrive.result c.arrive.ensures t s going c.set_var-in-Dropped.new.vars j c.in-Dropped.n c.in_ok-to.used (c.in_ok-to.was ∙ ap (λ (x : Target). Ok (x, c.in_ok-to.used)) c.in-Dropped.is) c.walk.result c.walk.new.w c.walk.ensures _ c.in_err-at-in-Dropped.was)

pub returns-in_ok-at-in-Dropped : goal.returns-in_ok-at-in-Dropped
returns-in_ok-at-in-Dropped c = let a = c.args in
    let f : SFits w32 a.o.value = search rules in
    let j = c.set_var-in-Dropped.ensures ∙ ap (λ (z : ℤ). set (get_or a.cells.now a.g []) a.o.var z) (again a.o.value f) in
    rw c.stand-in-Dropped.ensures (λ t s going. walk_lands a.keep.now a.code.now a.words.now a.marks.now a.cells.now a.values.now a.g a.o a.most c.arrive.result c.arrive.ensures t s going c.set_var-in-Dropped.new.vars j c.in-Dropped.n c.in_ok-to.used (c.in_ok-to.was ∙ ap (λ (x : Target). Ok (x, c.in_ok-to.used)) c.in-Dropped.is) c.walk.result c.walk.new.w c.walk.ensures c.in_ok-at-in-Dropped.at c.in_ok-at-in-Dropped.end c.in_ok-at-in-Dropped.was)
