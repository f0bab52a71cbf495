use Rattle.std.proofs.Common.{ℕ, ◌%◌, ap, ◌∙◌, ltb, ne_eqb, arith}
use Rattle.masks.specs.Bits.{one_shl}
use Rattle.targets.specs.ListChecks.{inside_even, inside_odd}
use Rattle.targets.proofs.inside.Goals as goal

pub returns-then-m-eq0 : goal.returns-then-m-eq0
returns-then-m-eq0 c = rw c.from.ensures (ap (λ (x : ℕ). ltb c.args.m x) (one_shl 64 c.args.n (omega arith)) ∙ inside_even c.args.m c.args.n (omega arith) c.if-m-eq0.true)

pub returns-else-m-eq0 : goal.returns-else-m-eq0
returns-else-m-eq0 c = ne_eqb (c.args.m % 2) 0 c.if-m-eq0.false ∙ inside_odd c.args.m c.args.n (omega arith) c.if-m-eq0.false
