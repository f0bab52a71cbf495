-- What a node is judged by after all lines, and its late fault.
use Rattle.std.specs.Prelude.{ℕ, Bool, not, ◌||◌, List, map, eqb, get_or}
use Rattle.std.proofs.Math.Option.{Option, none}
use Rattle.table.specs.Mask.{bit, members, mask_of}
use Rattle.table.specs.Table.{no_queue, node_in, arg_at, Act, alone, waits, signals, sends, receives, calls, returns, Exit, ends, by, either, parts, act, is_absent}
use Rattle.table.specs.declared.Args.{Args}
use Rattle.table.specs.declared.Node.{Node}
use Rattle.table.specs.declared.Proc.{Proc}
use Rattle.table.specs.declared.Table.{Table}
use Rattle.text.specs.declared.Fault.{Fault}
use Rattle.text.specs.declared.Fault.TheVariants.{Arguments, Unclosed}
use Rattle.text.specs.Number.{every}
use Rattle.text.specs.Value.{unless, or_else}
use Rattle.text.specs.Reader.{all_below, is_removed, iff}
use Rattle.late_nodes.specs.declared.Callee.{Callee}
use Rattle.late_nodes.specs.declared.Terms.{Terms}

-- ---- what nodes are judged by

abbrev pub no_callee : Callee
no_callee = record { params = 0; drop = 0 }

abbrev pub callee_at : Terms → ℕ → Callee
callee_at c k = get_or c.callee k no_callee

-- the terms of a table
abbrev pub callee_of : Proc → Callee
callee_of q = record { params = q.params; drop = q.drop }

abbrev pub terms_of : Table → Terms
terms_of t = record { closed = t.closed; callee = map callee_of t.proc; queue = t.queue }

-- the set of a procedure's nodes
abbrev pub present_in : Proc → ℕ
present_in q = mask_of 32 (λ i. not (is_absent (node_in q i)))

-- all of some nodes are in the set m
abbrev pub all_in : ℕ → List ℕ → Bool
all_in m ks = every (λ k. bit k m) ks

-- ---- the late fault of a node of the procedure whose nodes are the set m

-- 7 where a test fails in closed form
abbrev pub if_closed : Bool → Bool → Option Fault
if_closed b a = unless (not b || a) Unclosed

-- "absent target"
abbrev pub arc_fault : Bool → ℕ → ℕ → Option Fault
arc_fault b m to = if_closed b (all_in m (members to))

-- "argument count differs from the callee's"
abbrev pub count_fault : ℕ → ℕ → Option Fault
count_fault len params = unless (eqb len params) Arguments

-- `-` "in `args` if and only if the parameter is dropped"
abbrev pub removal_fault : Bool → ℕ → Args → Option Fault
removal_fault b d xs = if_closed b (all_below xs.len (λ i. iff (is_removed (arg_at xs i)) (bit i d)))

-- `-` "in `send` and `recv` if and only if the queue is blank"
abbrev pub blank_fault : Bool → ℕ → Bool → Option Fault
blank_fault b v blank = if_closed b (iff (is_removed v) blank)

abbrev pub exit_fault : Bool → ℕ → Exit → Option Fault
exit_fault b m ends = none
exit_fault b m (by to) = arc_fault b m to
exit_fault b m (either y n) = or_else (arc_fault b m y) (arc_fault b m n)

-- with the fault f of its arcs
abbrev pub act_fault : Terms → Option Fault → Act → Option Fault
act_fault c f alone = f
act_fault c f (waits i) = f
act_fault c f (signals i) = f
act_fault c f (sends k v) = or_else f (blank_fault c.closed v (get_or c.queue k no_queue).blank)
act_fault c f (receives k v) = or_else f (blank_fault c.closed v (get_or c.queue k no_queue).blank)
act_fault c f (calls k xs) = or_else (count_fault xs.len (callee_at c k).params) (or_else f (removal_fault c.closed (callee_at c k).drop xs))
act_fault c f returns = f

abbrev pub call_fault : Terms → ℕ → ℕ → Args → ℕ → Option Fault
call_fault c m k xs to = act_fault c (arc_fault c.closed m to) (calls k xs)

-- a send or a recv
abbrev pub transfer_fault : Terms → ℕ → ℕ → ℕ → ℕ → Option Fault
transfer_fault c m k v to = act_fault c (arc_fault c.closed m to) (sends k v)

unfoldable pub node_fault_by : Terms → ℕ → Node → Option Fault
node_fault_by c m x = act_fault c (exit_fault c.closed m (parts x).exit) (act x)
