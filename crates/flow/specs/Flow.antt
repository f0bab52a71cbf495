-- What one node does to the masks of dirty variables, as the code computes it.
use Rattle.std.specs.Prelude.{ℕ, ◌+◌, ◌%◌, ◌^◌, Bool, true, false, not, ◌&&◌, ◌||◌, List, [], ◌∷◌, ◌++◌, eqb, ltb}
use Rattle.std.proofs.Math.Option.{Option, none, some}
use Rattle.std.specs.Int.Bits.{bit_or, bit_and, bit_xor}
use Rattle.std.specs.Int.Count.{count_trailing_zeros}
use Rattle.table.specs.Mask.{pick, bit}
use Rattle.table.specs.Table.{operand_uses, Keeping, always, if_clean, never, absent, Exit, ends, by, either, Act, alone, waits, signals, sends, receives, calls, returns, parts, uses, variable_set, keeping, act}
use Rattle.table.specs.declared.Operand.{Operand}
use Rattle.table.specs.declared.Operand.TheVariants.{Var, Const}
use Rattle.table.specs.declared.Args.{Args}
use Rattle.table.specs.declared.Node.{Node}
use Rattle.flow.specs.declared.Flow.{Flow}
use Rattle.flow.specs.declared.Pass.{Pass}

-- the one target of an open arc
abbrev pub low : ℕ → ℕ
low to = count_trailing_zeros 32 to % 32

-- one of some variables is dirty. i: the variables that are dirty before the node
abbrev pub any_of : List ℕ → ℕ → Bool
any_of [] i = false
any_of (u ∷ us) i = bit (u % 32) i || any_of us i

-- the variables that are dirty after a node that sets the variable of m
abbrev pub after_set : ℕ → Bool → ℕ → ℕ
after_set i true m = bit_or i m
after_set i false m = bit_xor i (bit_and i m)

abbrev pub one_flow : ℕ → ℕ → ℕ → ℕ → Flow
one_flow to out extra add = record { first = low to; second = low to; out = out; extra = extra; add = add }

abbrev pub plain_flow : ℕ → ℕ → Flow
plain_flow k i = record { first = k; second = k; out = i; extra = 264; add = 0 }

abbrev pub setting_flow : ℕ → ℕ → ℕ → Bool → Flow
setting_flow v to i d = one_flow to (after_set i d (2 ^ (v % 32))) 264 0

abbrev pub test_flow : ℕ → ℕ → ℕ → Flow
test_flow yes' no' i = record { first = low yes'; second = low no'; out = i; extra = 264; add = 0 }

unfoldable pub arg_bit : ℕ → ℕ → ℕ → ℕ → ℕ
arg_bit i len k a = pick (ltb k len && bit (a % 32) i) (2 ^ (k % 32)) 0

unfoldable pub passed_bits : ℕ → Args → ℕ
passed_bits i xs = bit_or (bit_or (arg_bit i xs.len 0 xs.a0) (arg_bit i xs.len 1 xs.a1)) (bit_or (arg_bit i xs.len 2 xs.a2) (arg_bit i xs.len 3 xs.a3))

abbrev pub call_flow : ℕ → Args → ℕ → ℕ → Flow
call_flow q xs to i = one_flow to i (256 + q % 8) (passed_bits i xs)

unfoldable pub sent_bit : ℕ → ℕ → ℕ → ℕ
sent_bit i q v = pick (bit (v % 32) i) (2 ^ (q % 32)) 0

abbrev pub send_flow : ℕ → ℕ → ℕ → ℕ → Flow
send_flow q v to i = one_flow to i 264 (sent_bit i q v)

-- ---- a node by its parts. i: the variables that are dirty before it; b: the blank queues

-- it is a `read`
abbrev pub is_never : Keeping → Bool
is_never always = false
is_never if_clean = false
is_never never = true
is_never absent = false

-- it receives
abbrev pub receives_by : Act → Bool
receives_by alone = false
receives_by (waits s) = false
receives_by (signals s) = false
receives_by (sends q v) = false
receives_by (receives q v) = true
receives_by (calls q xs) = false
receives_by returns = false

-- it receives from a blank queue
abbrev pub from_blank : Act → ℕ → Bool
from_blank alone b = false
from_blank (waits s) b = false
from_blank (signals s) b = false
from_blank (sends q v) b = false
from_blank (receives q v) b = bit (q % 32) b
from_blank (calls q xs) b = false
from_blank returns b = false

-- what it sets, if it does, is dirty
abbrev pub set_dirty : Node → ℕ → ℕ → Bool
set_dirty x i b = is_never (keeping x) || (any_of (uses x) i || from_blank (act x) b)

-- its targets; a node without an arc, at place n, stays where it is
abbrev pub first_to : ℕ → Exit → ℕ
first_to n ends = n
first_to n (by m) = low m
first_to n (either f s) = low f

abbrev pub second_to : ℕ → Exit → ℕ
second_to n ends = n
second_to n (by m) = low m
second_to n (either f s) = low s

-- the variables that are dirty after it. d: what it sets is dirty
abbrev pub after_any : Option ℕ → ℕ → Bool → ℕ
after_any none i d = i
after_any (some v) i d = after_set i d (2 ^ (v % 32))

abbrev pub out_by : Exit → ℕ → ℕ → ℕ
out_by ends i o = i
out_by (by m) i o = o
out_by (either f s) i o = o

-- the cell that its arguments or what it sends come to, and what comes there
abbrev pub add_by : Act → ℕ → ℕ × ℕ
add_by alone i = (264, 0)
add_by (waits s) i = (264, 0)
add_by (signals s) i = (264, 0)
add_by (sends q v) i = (264, sent_bit i q v)
add_by (receives q v) i = (264, 0)
add_by (calls q xs) i = (256 + q % 8, passed_bits i xs)
add_by returns i = (264, 0)

-- the node at place n
unfoldable pub flow_of : Node → ℕ → ℕ → ℕ → Flow
flow_of x n i b = record {
  first = first_to n (parts x).exit;
  second = second_to n (parts x).exit;
  out = out_by (parts x).exit i (after_any (variable_set x) i (set_dirty x i b));
  extra = (add_by (act x) i).0;
  add = (add_by (act x) i).1;
}

-- whether the node is kept
abbrev pub kept_by : Keeping → Bool → Bool
kept_by always d = true
kept_by if_clean d = not d
kept_by never d = false
kept_by absent d = false

abbrev pub kept_with : Node → ℕ → Bool
kept_with x i = kept_by (keeping x) (any_of (uses x) i)

-- ---- a node with one target

abbrev pub uses_of : Operand → ℕ
uses_of (Var v) = 2 ^ (v % 32)
uses_of (Const c) = 0

abbrev pub plain_pass : ℕ → Pass
plain_pass to = record { uses = 0; sets = 0; to = to }

-- some variables as a mask
abbrev pub mask_in : List ℕ → ℕ
mask_in [] = 0
mask_in (u ∷ us) = bit_or (2 ^ (u % 32)) (mask_in us)

abbrev pub set_pass : ℕ → Operand → Operand → ℕ → Pass
set_pass v x y to = record { uses = mask_in (operand_uses x ++ operand_uses y); sets = 2 ^ (v % 32); to = low to }

-- it does no more than go on, or ends
abbrev pub goes_on : Act → Bool
goes_on alone = true
goes_on (waits s) = true
goes_on (signals s) = true
goes_on (sends q v) = false
goes_on (receives q v) = false
goes_on (calls q xs) = false
goes_on returns = true

-- it passes on what is dirty, by its sets and uses
abbrev pub passes : Node → Bool
passes x = goes_on (act x) && not (is_never (keeping x))

abbrev pub pass_by : Exit → ℕ → Option ℕ → List ℕ → Pass
pass_by ends n s us = plain_pass n
pass_by (by m) n none us = plain_pass (low m)
pass_by (by m) n (some v) us = record { uses = mask_in us; sets = 2 ^ (v % 32); to = low m }
pass_by (either y z) n s us = plain_pass 32

-- the node at place n
unfoldable pub pass_of : Node → ℕ → Pass
pass_of x n = pick (passes x) (pass_by (parts x).exit n (variable_set x) (uses x)) (plain_pass 32)

-- the variables that are dirty after it
abbrev pub after_pass : Pass → ℕ → ℕ
after_pass s i = after_set i (not (eqb (bit_and i s.uses) 0)) s.sets
