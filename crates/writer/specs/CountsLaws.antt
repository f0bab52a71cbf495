-- A table without a fault keeps within the counts that writing asks for.
use Rattle.std.specs.Prelude.{ℕ, ◌≡◌, true}
use Rattle.std.proofs.Common.{arith, eqb-true}
use Rattle.table.specs.Table.{calls, proc_at, node_at}
use Rattle.table.specs.declared.Node.{Node}
use Rattle.table.specs.declared.Table.{Table}
use Rattle.text.specs.Reader.{count_right}
use Rattle.text.specs.Writer.{scope, fault}
use Rattle.text.specs.Valid.{Valid, NodeValid, ActValid}
use Rattle.text.proofs.LinedLaws.{valid_parts}
use Rattle.text.proofs.ValidLaws.{valid_of}
use Rattle.lines.specs.Lines.{FewArgs}
use Rattle.writer.specs.Table.{Counts}

module _ (t : Table) (z : fault t ≡ 0) where
  v : Valid t
  v = valid_of t z

  few : (p n : ℕ) (x : Node) → NodeValid (scope t (proc_at t p)) n x → count_right t x ≡ true → FewArgs x
  few p n x h k q xs e =
      let a : ActValid (scope t (proc_at t p)) (calls q xs) = rw e at (valid_parts (scope t (proc_at t p)) n x h).act in
      omega (arith, eqb-true xs.len (proc_at t q).params (rw e at k), (v.lines.proc q a.0).params)

  pub counts : Counts t
  counts = record {
    front = record { tasks = v.lines.tasks; sems = v.lines.sems; queues = v.lines.queues };
    procs = record {
      count = v.lines.procs;
      each = λ p l. record {
        within = record {
          count = (v.lines.proc p l).nodes;
          few = λ n m. few p n (node_at t p n) ((v.lines.proc p l).node n m) (v.counts p n l m);
        };
      };
    };
  }
