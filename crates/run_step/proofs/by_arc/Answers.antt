-- The effect, by the rows of the node.
use Rattle.std.proofs.Common.{[], ◌∙◌, ap, get_or, ℤ}
use Rattle.values.proofs.Again.{again}
use Rattle.run_code.specs.Code.{byte}
use Rattle.run_step.specs.Effects.{goes_to}
use Rattle.run_step.proofs.by_arc.Goals as goal

pub returns : goal.returns
returns c = let a = c.args in
    c.goes.ensures ∙ ap (λ (x : ℤ). goes_to a.var x a.used (byte (get_or a.words.now a.a []) 2) (byte (get_or a.code.now a.a []) 7)) (again a.value c.ranges.value)
