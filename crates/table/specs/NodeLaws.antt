-- The parts of a node with other arcs and variables, and that it is the same line but for these.
use Rattle.std.specs.Prelude.{ℕ, ◌≡◌}
use Rattle.table.specs.declared.Node.{Node}
use Rattle.table.specs.ByKind.{by_kind}
use Rattle.table.specs.Table.{Exit, ends, by, either, Act, alone, waits, signals, sends, receives, calls, returns, parts, keeping, act, map_args, map_node}

abbrev pub map_exit : (ℕ → ℕ) → Exit → Exit
map_exit arc ends = ends
map_exit arc (by m) = by (arc m)
map_exit arc (either y n) = either (arc y) (arc n)

abbrev pub map_act : (ℕ → ℕ → ℕ) → Act → Act
map_act var alone = alone
map_act var (waits i) = waits i
map_act var (signals i) = signals i
map_act var (sends q v) = sends q (var 0 v)
map_act var (receives q v) = receives q (var 0 v)
map_act var (calls q xs) = calls q (map_args var xs)
map_act var returns = returns

pub record Mapped (arc : ℕ → ℕ) (var : ℕ → ℕ → ℕ) (x : Node) : Type 0 where
  pub keeping : keeping (map_node arc var x) ≡ keeping x
  pub act : act (map_node arc var x) ≡ map_act var (act x)
  pub exit : (parts (map_node arc var x)).exit ≡ map_exit arc (parts x).exit

pub mapped : (arc : ℕ → ℕ) (var : ℕ → ℕ → ℕ) (x : Node) → Mapped arc var x
unfolding parts map_node
mapped arc var = by_kind (search)

-- with its own arcs and variables it is the same node
pub map_same : (x : Node) → map_node (λ m. m) (λ i v. v) x ≡ x
unfolding map_node
map_same = by_kind (search)
