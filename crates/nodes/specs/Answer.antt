-- What the readers of node lines answer.
use Rattle.std.specs.Prelude.{ℕ, ◌≤◌, ◌<◌, ◌≡◌, List, Bool, Ok, Err}
use Rattle.table.specs.declared.Op.{Op}
use Rattle.table.specs.declared.Node.{Node}
use Rattle.text.specs.Number.{bytes}
use Rattle.text.specs.declared.NodeKind.{NodeKind}
use Rattle.text.specs.Value.{ascending, operand}
use Rattle.text.specs.Line.{Line, end, field, Vals, line}
use Rattle.text.specs.Format.{Scope as Judged, targets, to_field, fields, node_line, set_of, node_of}
use Rattle.text.specs.Reader.{Numbered}
use Rattle.nodes.specs.declared.Scope.{Scope}
use Rattle.nodes.specs.declared.Line.{Line as NodeAnswer}
use Rattle.nodes.specs.declared.Line.TheVariants.{Node as IsNode, Refused as NotNode}
use Rattle.fields.specs.Answer.{Answer, LineAt}

-- the declared items that references on a node line are judged by
abbrev pub scope_in : Scope → Judged
scope_in x = record { closed = x.closed; procs = x.procs; sems = x.sems; queues = x.queues; vars = x.vars; nodes = x.nodes }

pub record Fits (x : Scope) : Type 0 where
  pub procs : x.procs ≤ 8
  pub sems : x.sems ≤ 8
  pub queues : x.queues ≤ 8
  pub vars : x.vars ≤ 16
  pub nodes : x.nodes ≤ 32

-- targets that end a line, and their set
abbrev pub last_line : List ℕ → Bool → ℕ → Line
last_line key one n = field key (ascending one 1 n) λ to. end

abbrev pub last_set : (key : List ℕ) (one : Bool) (n : ℕ) → Vals (last_line key one n) → ℕ
last_set key one n w = set_of w.0

-- what stands behind a node's kind
pub record BodyAt (c : Judged) (k : NodeKind) (s : List ℕ) (at : ℕ) (r : Answer Node) : Type 0 where
  pub is : LineAt (fields c k) (node_of c k) s at r

-- behind the operation of a set node, and of a test
abbrev pub set_line : Judged → Line
set_line c =
    field (bytes " a=") (operand c.vars) λ a.
    field (bytes " b=") (operand c.vars) λ b.
    to_field c

abbrev pub set_node : (c : Judged) → ℕ → Op → Vals (set_line c) → Node
set_node c v o w = Node.Set v o w.0 w.1.0 (set_of w.1.1.0)

abbrev pub test_line : Judged → Line
test_line c =
    field (bytes " a=") (operand c.vars) λ a.
    field (bytes " b=") (operand c.vars) λ b.
    field (bytes " yes=") (targets c) λ y.
    field (bytes " no=") (targets c) λ n.
    end

abbrev pub test_node : (c : Judged) → Op → Vals (test_line c) → Node
test_node c o w = Node.Test o w.0 w.1.0 (set_of w.1.1.0) (set_of w.1.1.1.0)

abbrev pub numbered : (c : Judged) (lo n : ℕ) → Vals (node_line c lo n) → Numbered
numbered c lo n w = record { at = w.0; node = node_of c w.1.0 w.1.1 }

abbrev pub node_in : NodeAnswer → Answer Numbered
node_in (IsNode x j e) = Ok (record { at = j; node = x }, e)
node_in (NotNode f l) = Err f

abbrev pub NodeFits : ℕ → ℕ → NodeAnswer → Type 0
NodeFits n line (IsNode x j e) = j < n
NodeFits n line (NotNode f l) = l ≡ line

pub record NodeAt (c : Judged) (lo n : ℕ) (s : List ℕ) (at line : ℕ) (r : NodeAnswer) : Type 0 where
  pub is : LineAt (node_line c lo n) (numbered c lo n) s at (node_in r)
  pub fits : NodeFits n line r
