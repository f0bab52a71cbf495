-- The bytes of a node's line, by kind, and piece by piece.
use Rattle.std.specs.Prelude.{ℕ, ◌+◌, ◌≤◌, ◌≡◌, refl, List, [], ◌++◌}
use Rattle.std.proofs.Common.{◌∙◌, ap, append-nil, append_assoc, arith}
use Rattle.table.specs.Table.{parts}
use Rattle.table.specs.declared.Operand.{Operand}
use Rattle.table.specs.declared.Op.{Op}
use Rattle.table.specs.declared.Args.{Args}
use Rattle.table.specs.declared.Node.{Node}
use Rattle.table.specs.declared.Node.TheVariants.{Absent, Start, Set, Test, Read, Call, Wait, Signal, Send, Recv, Assert, Out, Return}
use Rattle.text.specs.Number.{bytes, digits}
use Rattle.text.specs.Value.{spell, spell_operand, op_word}
use Rattle.text.specs.Line.{write}
use Rattle.text.specs.Format.{Scope, describe}
use Rattle.text.specs.Writer.{node_text}
use Rattle.table.specs.ByKind.{by_kind}
use Rattle.put.specs.Put.{Put}
use Rattle.put.specs.PutLaws.{put_after}
use Rattle.node_lines.specs.NodeLines.{node, operands_text, number_text, variable_text, pass_text, start_text, call_text, set_text, test_text, return_text, node_bytes, FewArgs}

pub node_absent : (j : ℕ) → node_bytes j Absent ≡ []
unfolding describe node_bytes
node_absent j = refl

pub node_start : (j to : ℕ) → node_bytes j (Start to) ≡ start_text j to
unfolding describe node_bytes write spell
node_start j to = refl

pub node_set : (j v : ℕ) (o : Op) (a b : Operand) (to : ℕ) → node_bytes j (Set v o a b to) ≡ set_text j v o a b to
unfolding describe node_bytes write spell
node_set j v o a b to = refl

pub node_test : (j : ℕ) (o : Op) (a b : Operand) (y n : ℕ) → node_bytes j (Test o a b y n) ≡ test_text j o a b y n
unfolding describe node_bytes write spell
node_test j o a b y n = refl

pub node_read : (j v to : ℕ) → node_bytes j (Read v to) ≡ number_text j (bytes " kind=read var=") v to
unfolding describe node_bytes write spell
node_read j v to = refl

pub node_call : (j q : ℕ) (x : Args) (to : ℕ) → node_bytes j (Call q x to) ≡ call_text j q x to
unfolding describe node_bytes write spell
node_call j q x to = refl

pub node_wait : (j s to : ℕ) → node_bytes j (Wait s to) ≡ number_text j (bytes " kind=wait sem=") s to
unfolding describe node_bytes write spell
node_wait j s to = refl

pub node_signal : (j s to : ℕ) → node_bytes j (Signal s to) ≡ number_text j (bytes " kind=signal sem=") s to
unfolding describe node_bytes write spell
node_signal j s to = refl

pub node_send : (j q v to : ℕ) → node_bytes j (Send q v to) ≡ pass_text j (bytes " kind=send queue=") q v to
unfolding describe node_bytes write spell
node_send j q v to = refl

pub node_recv : (j q v to : ℕ) → node_bytes j (Recv q v to) ≡ pass_text j (bytes " kind=recv queue=") q v to
unfolding describe node_bytes write spell
node_recv j q v to = refl

pub node_assert : (j v to : ℕ) → node_bytes j (Assert v to) ≡ variable_text j (bytes " kind=assert var=") v to
unfolding describe node_bytes write spell
node_assert j v to = refl

pub node_out : (j v to : ℕ) → node_bytes j (Out v to) ≡ variable_text j (bytes " kind=out var=") v to
unfolding describe node_bytes write spell
node_out j v to = refl

pub node_return : (j : ℕ) → node_bytes j Return ≡ return_text j
unfolding describe node_bytes write spell
node_return j = refl

-- whatever the references are judged by
pub node_scope : (c : Scope) (j : ℕ) (x : Node) → node_text c j (describe c x) ≡ node_bytes j x
unfolding describe node_bytes write spell
node_scope c j = by_kind (search)

pub few_call : {x : Node} {q : ℕ} {xs : Args} {to : ℕ} → x ≡ Call q xs to → FewArgs x → xs.len ≤ 4
unfolding parts
few_call {q = q} {xs = xs} e h = h q xs (rw e)

-- where there is no node nothing is written
pub node_none : {l : List ℕ} {at : ℕ} (j : ℕ) → Put 240 l at (node_bytes j Absent) l at
node_none j = rw (node_absent j) (record { few = omega arith; bytes = refl; same = refl; next = omega arith })

-- ---- a node line, piece by piece

pub put_end : {k : ℕ} {l m t : List ℕ} {at r : ℕ} → Put k l at t m r → Put k l at (t ++ []) m r
put_end {t = t} a = rw (append-nil t) a

pub index_then : {i k : ℕ} {l m n u : List ℕ} {at p r : ℕ} (j : ℕ) → Put i l at (node j []) m p → Put k m p u n r → Put (i + k) l at (node j u) n r
index_then j a b = put_after (rw (append-nil (digits j)) at a) b

pub operands_then : {i k : ℕ} {l m n u : List ℕ} {at p r : ℕ} (o : Op) (x y : Operand) → Put i l at (operands_text o x y []) m p → Put k m p u n r
    → Put (i + k) l at (operands_text o x y u) n r
operands_then {u = u} o x y a b =
    let e : operands_text o x y [] ++ u ≡ operands_text o x y u =
    ap (λ (z : List ℕ). bytes " op=" ++ z) (append_assoc (op_word o) _ u)
    ∙ ap (λ (z : List ℕ). bytes " op=" ++ (op_word o ++ (bytes " a=" ++ z))) (append_assoc (spell_operand x) _ u)
    ∙ ap (λ (z : List ℕ). bytes " op=" ++ (op_word o ++ (bytes " a=" ++ (spell_operand x ++ (bytes " b=" ++ (z ++ u)))))) (append-nil (spell_operand y)) in
    rw e at (put_after a b)
