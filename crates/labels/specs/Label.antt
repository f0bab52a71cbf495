-- What a node says: the label of its box in a graph.
use Rattle.std.specs.Prelude.{ℕ, ◌≤◌, List, [], ◌++◌, eqb}
use Rattle.table.specs.Mask.{pick}
use Rattle.table.specs.Table.{removed, arg_at}
use Rattle.table.specs.declared.Operand.{Operand}
use Rattle.table.specs.declared.Operand.TheVariants.{Var}
use Rattle.table.specs.declared.Op.{Op}
use Rattle.table.specs.declared.Args.{Args}
use Rattle.table.specs.declared.Node.{Node}
use Rattle.table.specs.declared.Node.TheVariants.{Absent, Start, Set, Test, Read, Call, Wait, Signal, Send, Recv, Assert, Out, Return}
use Rattle.text.specs.Number.{bytes, digits}
use Rattle.text.specs.Value.{spell_operand, op_word}
use Rattle.text.specs.Reader.{concat_from}

-- a variable, or `-`
abbrev pub variable_text : ℕ → List ℕ
variable_text v = pick (eqb v removed) (bytes "-") (spell_operand (Var v))

-- a call's argument i
abbrev pub argument_text : Args → ℕ → List ℕ
argument_text x i = bytes " " ++ variable_text (arg_at x i)

-- an operation between its operands
abbrev pub operation_text : Op → Operand → Operand → List ℕ
operation_text o a b = spell_operand a ++ (bytes " " ++ (op_word o ++ (bytes " " ++ spell_operand b)))

abbrev pub set_text : ℕ → Op → Operand → Operand → List ℕ
set_text v o a b = bytes "set v" ++ (digits v ++ (bytes " = " ++ operation_text o a b))

abbrev pub call_text : ℕ → Args → List ℕ
call_text q x = bytes "call proc " ++ (digits q ++ concat_from (argument_text x) x.len 0)

-- a word, a queue and a variable
abbrev pub pass_text : List ℕ → ℕ → ℕ → List ℕ
pass_text word q v = word ++ (digits q ++ (bytes " " ++ variable_text v))

unfoldable pub node_says : Node → List ℕ
node_says Absent = []
node_says (Start to) = bytes "start"
node_says (Set v o a b to) = set_text v o a b
node_says (Test o a b y n) = bytes "test " ++ operation_text o a b
node_says (Read v to) = bytes "read v" ++ digits v
node_says (Call q x to) = call_text q x
node_says (Wait s to) = bytes "wait sem " ++ digits s
node_says (Signal s to) = bytes "signal sem " ++ digits s
node_says (Send q v to) = pass_text (bytes "send queue ") q v
node_says (Recv q v to) = pass_text (bytes "recv queue ") q v
node_says (Assert v to) = bytes "assert " ++ variable_text v
node_says (Out v to) = bytes "out " ++ variable_text v
node_says Return = bytes "return"

-- A bound of a place, so that the place after what a node says stays a small number.
abbrev pub SaysAt : ℕ → Type 0
SaysAt at = at ≤ 1000000300
