use Rattle.std.proofs.Common.{◌∙◌, inl, inr, arith}
use Rattle.std.proofs.lemmas.Result.{MatchResult-weaker}
use Rattle.late_lines.specs.Walks.{proc_step}
use Rattle.late_lines.proofs.proc_at.Goals as goal
use Rattle.late_lines.proofs.proc_at.Goals.{then-c, else-c}

pub returns : goal.returns
returns c = record {
  found = proc_step c.args.c c.args.q c.if-c.m _ (elim c.if-c.branch [ then-c w ↦ inl (w.m-is ∙ w.present-m.ensures) | else-c w ↦ inr w.if-c.false ]) c.nodes.ensures.found;
  near = MatchResult-weaker c.nodes.result c.nodes.ensures.near (λ l h. omega arith) (λ a h. omega arith);
}
