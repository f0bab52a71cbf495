-- An arc that leads straight to a kept node, or another.
use Rattle.std.proofs.Common.{rules, w32, SFits, [], ap, ◌∙◌, get_or, set, ℤ}
use Rattle.values.proofs.Again.{again}
use Rattle.run_step.specs.Effects.{goes_to}
use Rattle.run_step.specs.GoLaws.{vars_long, near_goes, far_going, far_goes}
use Rattle.run_step.proofs.go_on.Goals as goal

pub set_var-requires : goal.set_var-requires
set_var-requires c = let a = c.args in
    let p = c.requires in
    vars_long p.t p.s a.keep.now a.code.now a.words.now a.marks.now a.cells.now p.going.held a.g p.going.frame

pub returns-then-o-ne0 : goal.returns-then-o-ne0
returns-then-o-ne0 c = let a = c.args in
    let f : SFits w32 a.o.value = search rules in
    let v = c.set_var in
    let j = v.ensures ∙ ap (λ (z : ℤ). set (get_or a.cells.now a.g []) a.o.var z) (again a.o.value f) in
    λ t s going. near_goes a.keep.now a.code.now a.words.now a.marks.now a.cells.now a.values.now a.g a.o a.most t s going c.if-o-ne0.true v.new.vars j

pub go_far-requires : goal.go_far-requires
go_far-requires c = let a = c.args in
    let p = c.requires in
    let i : SFits w32 a.o.value = search rules in
    let g = c.goes-far in
    let f = g.ensures ∙ ap (λ (z : ℤ). goes_to a.o.var z a.o.used a.o.arc 0) (again a.o.value i) in
    record { t = p.t; s = p.s; going = far_going a.keep.now a.code.now a.words.now a.marks.now a.cells.now a.values.now a.g a.o a.most p.t p.s p.going g.result f }

pub returns : goal.returns
returns c = let a = c.args in
    let i : SFits w32 a.o.value = search rules in
    let g = c.goes-far in
    let f = g.ensures ∙ ap (λ (z : ℤ). goes_to a.o.var z a.o.used a.o.arc 0) (again a.o.value i) in
    let e = c.go_far in
    λ t s going. far_goes a.keep.now a.code.now a.words.now a.marks.now a.cells.now a.values.now a.g a.o a.most t s going g.result f e.result e.new.marks e.new.cells (e.ensures t s (far_going a.keep.now a.code.now a.words.now a.marks.now a.cells.now a.values.now a.g a.o a.most t s going g.result f))
