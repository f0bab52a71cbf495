-- A node line's bytes, by shape. What a node's line reads does not depend on what its references are judged by.
use Rattle.std.specs.Prelude.{ℕ, ◌≤◌, ◌≡◌, false, List, [], ◌∷◌, ◌++◌}
use Rattle.table.specs.Table.{calls, act}
use Rattle.table.specs.declared.Operand.{Operand}
use Rattle.table.specs.declared.Op.{Op}
use Rattle.table.specs.declared.Args.{Args}
use Rattle.table.specs.declared.Node.{Node}
use Rattle.text.specs.Number.{bytes, digits}
use Rattle.text.specs.Value.{spell_variable, spell_operand, op_word}
use Rattle.text.specs.Format.{Scope, name_of, describe}
use Rattle.text.specs.Writer.{node_text}
use Rattle.put.specs.Lists.{list_text}
use Rattle.put_fields.specs.Args.{args_text}

-- LF
abbrev pub lf : List ℕ
lf = 10 ∷ []

abbrev pub node : ℕ → List ℕ → List ℕ
node j rest = bytes "node=" ++ (digits j ++ rest)

abbrev pub to_text : ℕ → List ℕ
to_text to = bytes " to=" ++ (list_text to ++ lf)

-- an operation and its operands, and what follows them
abbrev pub operands_text : Op → Operand → Operand → List ℕ → List ℕ
operands_text o a b rest = bytes " op=" ++ (op_word o ++ (bytes " a=" ++ (spell_operand a ++ (bytes " b=" ++ (spell_operand b ++ rest)))))

-- the arcs of a test
abbrev pub arcs_text : ℕ → ℕ → List ℕ
arcs_text y n = bytes " yes=" ++ (list_text y ++ (bytes " no=" ++ (list_text n ++ lf)))

-- with a number, or a variable, under a key
abbrev pub number_text : ℕ → List ℕ → ℕ → ℕ → List ℕ
number_text j key n to = node j (key ++ (digits n ++ to_text to))

abbrev pub variable_text : ℕ → List ℕ → ℕ → ℕ → List ℕ
variable_text j key v to = node j (key ++ (spell_variable (name_of v) ++ to_text to))

abbrev pub pass_text : ℕ → List ℕ → ℕ → ℕ → ℕ → List ℕ
pass_text j key q v to = node j (key ++ (digits q ++ (bytes " var=" ++ (spell_variable (name_of v) ++ to_text to))))

abbrev pub start_text : ℕ → ℕ → List ℕ
start_text j to = node j (bytes " kind=start" ++ to_text to)

abbrev pub call_text : ℕ → ℕ → Args → ℕ → List ℕ
call_text j q x to = node j (bytes " kind=call proc=" ++ (digits q ++ (bytes " args=" ++ (args_text x ++ to_text to))))

abbrev pub set_text : ℕ → ℕ → Op → Operand → Operand → ℕ → List ℕ
set_text j v o a b to = node j (bytes " kind=set var=" ++ (digits v ++ operands_text o a b (to_text to)))

abbrev pub test_text : ℕ → Op → Operand → Operand → ℕ → ℕ → List ℕ
test_text j o a b y n = node j (bytes " kind=test" ++ operands_text o a b (arcs_text y n))

abbrev pub return_text : ℕ → List ℕ
return_text j = node j (bytes " kind=return" ++ lf)

-- a scope in which nothing is declared
abbrev pub any_scope : Scope
any_scope = record { closed = false; procs = 0; sems = 0; queues = 0; vars = 0; nodes = 0 }

-- a node's line, or nothing
unfoldable pub node_bytes : ℕ → Node → List ℕ
node_bytes j x = node_text any_scope j (describe any_scope x)

-- a call has at most four arguments
abbrev pub FewArgs : Node → Type 0
FewArgs x = (q : ℕ) (xs : Args) → act x ≡ calls q xs → xs.len ≤ 4
