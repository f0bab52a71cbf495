-- The parts of every node of a table without a fault: what it acts on and leads to is declared, and in open form so is every variable.
use Rattle.std.specs.Prelude.{ℕ, ◌<◌, ◌≡◌, true, false}
use Rattle.std.proofs.Common.{arith}
use mathlib.Core.List.Memᴰ
use mathlib.Core.List.{Memᴰ}
use Rattle.std.proofs.Math.Option.{some}
use Rattle.table.specs.Cases.{cases}
use Rattle.table.specs.Table.{proc_at, node_at, uses, variable_set, act, is_absent, parts}
use Rattle.table.specs.declared.Node.{Node}
use Rattle.table.specs.declared.Table.{Table}
use Rattle.text.specs.Format.{Scope}
use Rattle.text.specs.Reader.{count_right}
use Rattle.text.specs.Writer.{scope, fault}
use Rattle.text.specs.Valid.{ActValid, ExitValid}
use Rattle.text.proofs.LinedLaws.{valid_parts}
use Rattle.text.proofs.ValidLaws.{valid_of, absent_is, inside_of}

pub record PartsIn (c : Scope) (x : Node) : Type 0 where
  pub act : ActValid c (act x)
  pub exit : ExitValid c (parts x).exit
  pub uses : c.closed ≡ false → (u : ℕ) → Memᴰ u (uses x) → u < c.vars
  pub sets : c.closed ≡ false → (v : ℕ) → variable_set x ≡ some v → v < c.vars

pub parts_of : (t : Table) → fault t ≡ 0 → (p n : ℕ) → PartsIn (scope t (proc_at t p)) (node_at t p n)
unfolding parts
parts_of t z p n = cases (is_absent (node_at t p n))
    (λ e. rw (absent_is (node_at t p n) e) (record { act = tt; exit = tt; uses = λ o u m. absurd (Memᴰ.not-nil m); sets = λ o w k. absurd (let y : ◌≡◌ {A = ℕ} 0 1 = cc in omega arith) }))
    (λ e. let i = inside_of t z p n e in
    let h = valid_parts (scope t (proc_at t p)) n (node_at t p n) (((valid_of t z).lines.proc p i.0).node n i.1) in
    record { act = h.act; exit = h.exit; uses = h.uses; sets = h.sets })

-- and its calls have the right count of arguments
pub count_of : (t : Table) → fault t ≡ 0 → (p n : ℕ) → count_right t (node_at t p n) ≡ true
unfolding parts
count_of t z p n = cases (is_absent (node_at t p n))
    (λ e. rw (absent_is (node_at t p n) e))
    (λ e. let i = inside_of t z p n e in (valid_of t z).counts p n i.0 i.1)
