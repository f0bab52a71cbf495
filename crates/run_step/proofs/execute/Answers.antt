-- The arm of a node's kind executes it.
use Rattle.std.proofs.Common.{[], arith, ℕ, get_or, ◌≡◌}
use Rattle.run_code.specs.Code.{byte}
use Rattle.run_step.specs.Steps.{Stands, Standing}
use Rattle.run_step.specs.Standing.{by_row}
use Rattle.run_step.proofs.execute.Goals as goal

pub return_step-requires : goal.return_step-requires
return_step-requires c = let z = c.requires.stands in
    let x = c.args in
    let k : byte (get_or x.code.now x.a []) 0 ≡ 12 = omega arith in
    by_row z (λ (a : ℕ). Standing x.keep.now x.code.now x.words.now x.marks.now x.cells.now x.values.now x.used x.f a × (byte (get_or x.code.now a []) 0 ≡ 12))
    (c.requires, k)

pub returns-in-5 : goal.returns-in-5
returns-in-5 c = let x = c.args in rw c.ended-in-5.ensures (c.call_step.ensures x.keep.now x.words.now x.values.now x.most)

pub returns-in-12 : goal.returns-in-12
returns-in-12 c =
    let x = c.args in
    rw c.ended-in-12.ensures (λ t s z.
    c.return_step.ensures t s
    (by_row z (λ (a : ℕ). Stands t s x.keep.now x.code.now x.words.now x.marks.now x.cells.now x.values.now x.used x.f a) z))
