use Rattle.std.proofs.Common.{◌*◌, ◌≡◌}
use Rattle.table.specs.Mask.{mask_of}
use Rattle.analysis.specs.Sources.{read_in, recv_in}
use Rattle.table.specs.Table.{node_in}
use Rattle.flow.specs.Flow.{pass_of}
use Rattle.analysis.specs.Plans.{stored_from}
use Rattle.analysis.proofs.plan.Given as goal

abbrev pub invariant-loop-n : goal.invariant-loop-n
invariant-loop-n l = record {
  plans : l.plans ≡ stored_from (l.p * 32) (λ k. pass_of (node_in l.fn.q k) k) l.n l.initial.plans;
  reads : l.reads ≡ mask_of l.n (read_in l.fn.q);
  recvs : l.recvs ≡ mask_of l.n (recv_in l.fn.q);
}
