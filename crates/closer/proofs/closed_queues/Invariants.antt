use Rattle.std.proofs.Common.{length, get_or, ℕ, ◌≤◌, ◌<◌, ◌≡◌}
use Rattle.closer.specs.Parts.{queue_with}
use Rattle.table.specs.Table.{no_queue}
use Rattle.closer.proofs.closed_queues.Given as goal

abbrev pub invariant-loop-i : goal.invariant-loop-i
invariant-loop-i l = record {
  size : length l.q-items ≡ 8;
  done : (a : ℕ) → a < l.i → get_or l.q-items a no_queue ≡ queue_with l.b a (get_or l.fn.queues a no_queue);
  rest : (a : ℕ) → l.i ≤ a → get_or l.q-items a no_queue ≡ get_or l.fn.queues a no_queue;
}
