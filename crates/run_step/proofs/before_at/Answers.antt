-- A lost task is stopped first, then a blocked one.
use Rattle.std.proofs.Common.{sym, ap, ◌∙◌, Bool, Ok, Err}
use Rattle.tosses.specs.declared.Stop.TheVariants.{TaskBlocked}
use Rattle.table.specs.Mask.{pick}
use Rattle.run_step.specs.BlockedLaws.{row_here, before_lost, before_here}
use Rattle.run_step.proofs.before_at.Goals as goal

pub returns-then-marks-i-ne0 : goal.returns-then-marks-i-ne0
returns-then-marks-i-ne0 c = let a = c.args in
    λ t s keep marked task. before_lost t s keep a.code.now a.marks.now marked a.i task a.a c.requires.1.0 a.d c.requires.1.1 c.if-marks-i-ne0.true

pub blocked_at-requires : goal.blocked_at-requires
blocked_at-requires c = let a = c.args in
    let p = c.requires.0 in
    row_here p.t p.s p.keep a.code.now a.marks.now p.marked a.i p.task a.a c.requires.1.0

pub returns-then-blocked_at : goal.returns-then-blocked_at
returns-then-blocked_at c = let a = c.args in
    λ t s keep marked task. ap (λ (b : Bool). pick b (Err TaskBlocked) (Ok tt)) (sym c.if-blocked_at.true ∙ c.blocked_at.ensures) ∙ before_here t s keep a.code.now a.marks.now marked a.i task a.a c.requires.1.0 a.d c.requires.1.1 c.if-marks-i-ne0.false

pub returns : goal.returns
returns c = let a = c.args in
    λ t s keep marked task. ap (λ (b : Bool). pick b (Err TaskBlocked) (Ok tt)) (sym c.if-blocked_at.false ∙ c.blocked_at.ensures) ∙ before_here t s keep a.code.now a.marks.now marked a.i task a.a c.requires.1.0 a.d c.requires.1.1 c.if-marks-i-ne0.false
