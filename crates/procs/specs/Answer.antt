-- What the readers of procedures answer.
use Rattle.std.specs.Prelude.{ℕ, zero, suc, ◌+◌, ◌≤◌, ◌≡◌, Bool, true, false, List, ltb, length, drop, Result, Ok, Err, IfOk, IfErr, MatchResult}
use Rattle.table.specs.Mask.{pick}
use Rattle.table.specs.declared.Slot.{Slot}
use Rattle.table.specs.Table.{no_slots}
use Rattle.table.specs.declared.Proc.{Proc}
use Rattle.text.specs.Number.{bytes}
use Rattle.text.specs.Line.{Outcome, took, refused, Parser}
use Rattle.text.specs.Format.{Scope as Judged}
use Rattle.text.specs.Reader.{stands, nodes_of, proc_row}
use Rattle.records.specs.declared.Counts.{Counts}
use Rattle.records.specs.declared.ProcHead.{ProcHead}
use Rattle.nodes.specs.declared.Line.{Line}
use Rattle.nodes.specs.declared.Line.TheVariants.{Node as IsNode, Refused as NotNode}
use Rattle.rows.specs.declared.Reached.{Reached}
use Rattle.rows.specs.declared.Refusal.{Refusal}

-- ---- node lines

abbrev pub IsRefused : Line → Type 0
IsRefused (IsNode x j e) = ⊥
IsRefused (NotNode f k) = Unit {0}

-- a line beginning `node=` stands there, also one that the text's end breaks off within that key
abbrev pub node_stands : List ℕ → ℕ → Bool
node_stands s at = stands (bytes "node=") (drop at s)

-- the next line is a further one: in closed form, behind the first; next is the least number that it may have
abbrev pub is_further : Bool → ℕ → Bool
is_further false next = false
is_further true zero = false
is_further true (suc last) = true

-- a line is due
abbrev pub line_due : Bool → ℕ → ℕ → List ℕ → ℕ → Bool
line_due closed next n s at = pick (is_further closed next) (node_stands s at) (ltb next n)

-- what the next line's number stays below
abbrev pub number_below : Bool → ℕ → ℕ → ℕ
number_below closed next n = pick (is_further closed next) n (suc next)

-- the outcome of node lines that filled l
abbrev pub slots_in : List ℕ → List Slot → Result Reached Refusal → Outcome (List Slot)
slots_in s l (Ok a) = took l a.line (drop a.at s)
slots_in s l (Err x) = refused x.fault x.line

-- the node lines of a procedure; beside a refusal the slots are all 0
pub record SlotsAt (c : Judged) (closed : Bool) (s : List ℕ) (at line : ℕ) (l : List Slot) (r : Result Reached Refusal) : Type 0 where
  pub same : slots_in s l r ≡ nodes_of c closed line (drop at s)
  pub within : IfOk r (λ a. a.at ≤ length s)
  pub blank : IfErr r (λ x. l ≡ no_slots)
  pub lines : MatchResult r (λ a. a.line ≤ line + 32) (λ x. x.line ≤ line + 32)

-- ---- procedures

abbrev pub proc_of : ProcHead → List Slot → Proc
proc_of h l = record { params = h.params; vars = h.vars; nodes = h.nodes; drop = h.drop; slots = l }

-- procedure i
abbrev pub row_in : Bool → Counts → ℕ → Parser Proc
row_in closed x = proc_row closed x.procs x.sems x.queues
