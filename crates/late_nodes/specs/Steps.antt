-- The late fault of a node, as the code finds it: a law for each return.
use Rattle.std.specs.Prelude.{ℕ, ◌-◌, ◌%◌, ◌^◌, ◌≤◌, ◌<◌, ◌≡◌, Result, Bool, eqb}
use Rattle.std.proofs.Common.{sym, ◌∙◌, arith, pow_pos, pow_mono}
use Rattle.table.specs.Mask.{bit}
use Rattle.table.specs.declared.Node.{Node}
use Rattle.text.specs.declared.Fault.{Fault}
use Rattle.text.specs.Reader.{all_below}
use Rattle.targets.specs.Judged.{judged}
use Rattle.late_nodes.specs.declared.Terms.{Terms}
use Rattle.late_nodes.specs.Terms.{if_closed, node_fault_by}
use Rattle.late_nodes.specs.MaskLaws.{all_dropped}

-- x is the test
pub unclosed_is : (b a : Bool) {r : Result (Unit {0}) Fault} {x : Bool} → x ≡ a → r ≡ judged (if_closed b x) → r ≡ judged (if_closed b a)
unclosed_is b a e h = rw e at h

-- ---- bits

pub small_power : (k : ℕ) {z : ℕ} → k < 4 → z ≡ 2 ^ k → z ≤ 8
small_power k l e = let h : 2 ^ k ≤ 2 ^ 3 = pow_mono (le_pred l) in omega arith
  where
    le_pred : {n : ℕ} → n < 4 → n ≤ 3
    le_pred u = omega arith

-- ---- dropped parameters

pub power_pos : (k : ℕ) {z : ℕ} → z ≡ 2 ^ k → 0 < z
power_pos k e = omega (arith, pow_pos k)

pub dropped_is : (n d : ℕ) {k z : ℕ} → k ≡ d % 2 ^ n → z ≡ 2 ^ n → eqb k (z - 1) ≡ all_below n (λ j. bit j d)
dropped_is n d p e = sym (all_dropped n d p ∙ rw e)

-- ---- each kind of node

-- y is the node as its kind shows it
pub node_is : (c : Terms) (m : ℕ) {x y : Node} {r : Result (Unit {0}) Fault} → x ≡ y → r ≡ judged (node_fault_by c m y) → r ≡ judged (node_fault_by c m x)
node_is c m e h = rw e h
