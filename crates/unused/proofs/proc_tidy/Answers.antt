use Rattle.std.proofs.Common.{◌≡◌, ◌∙◌, ◌&&◌, drop, arith}
use Rattle.table.specs.Table.{no_slot, node_in}
use Rattle.text.specs.Reader.{all_below}
use Rattle.text.specs.Writer.{every, slot_empty, args_empty}
use Rattle.checks.specs.ArgumentChecks.{and_more, and_stop}
use Rattle.unused.specs.UnusedLaws.{from_on, every_below, proc_rest, proc_stop}
use Rattle.unused.proofs.proc_tidy.Goals as goal
use Rattle.unused.proofs.proc_tidy.Goals.{then-slots_empty, else-slots_empty}

pub returns-then-closed : goal.returns-then-closed
returns-then-closed c =
    let two : c.if-slots_empty.value ≡ every slot_empty (drop c.args.q.now.nodes c.args.q.now.slots) && all_below c.args.q.now.nodes (λ j. args_empty (node_in c.args.q.now j)) =
    elim c.if-slots_empty.branch [
      | then-slots_empty w ↦ and_more _ _ _ _ w.if-slots_empty.true w.value-is (from_on slot_empty c.args.q.now.slots c.args.q.now.nodes 32 (omega arith) (rw c.from-n.ensures at c.slots_empty.ensures)) ((rw c.from-n.ensures at w.slots_fit.ensures) ∙ every_below (λ s. args_empty s.node) no_slot c.args.q.now.slots c.args.q.now.nodes (omega arith))
      | else-slots_empty w ↦ and_stop _ _ _ w.if-slots_empty.false w.value-is (from_on slot_empty c.args.q.now.slots c.args.q.now.nodes 32 (omega arith) (rw c.from-n.ensures at c.slots_empty.ensures))
    ]
    in
    proc_rest c.args.closed c.args.q.now two c.if-slots_fit.true _ (rw c.if-closed.true)

pub returns-else-closed : goal.returns-else-closed
returns-else-closed c =
    let two : c.if-slots_empty.value ≡ every slot_empty (drop c.args.q.now.nodes c.args.q.now.slots) && all_below c.args.q.now.nodes (λ j. args_empty (node_in c.args.q.now j)) =
    elim c.if-slots_empty.branch [
      | then-slots_empty w ↦ and_more _ _ _ _ w.if-slots_empty.true w.value-is (from_on slot_empty c.args.q.now.slots c.args.q.now.nodes 32 (omega arith) (rw c.from-n.ensures at c.slots_empty.ensures)) ((rw c.from-n.ensures at w.slots_fit.ensures) ∙ every_below (λ s. args_empty s.node) no_slot c.args.q.now.slots c.args.q.now.nodes (omega arith))
      | else-slots_empty w ↦ and_stop _ _ _ w.if-slots_empty.false w.value-is (from_on slot_empty c.args.q.now.slots c.args.q.now.nodes 32 (omega arith) (rw c.from-n.ensures at c.slots_empty.ensures))
    ]
    in
    proc_rest c.args.closed c.args.q.now two c.if-slots_fit.true _ (rw c.if-closed.false)

pub returns-else-slots_fit : goal.returns-else-slots_fit
returns-else-slots_fit c =
    let two : c.if-slots_empty.value ≡ every slot_empty (drop c.args.q.now.nodes c.args.q.now.slots) && all_below c.args.q.now.nodes (λ j. args_empty (node_in c.args.q.now j)) =
    elim c.if-slots_empty.branch [
      | then-slots_empty w ↦ and_more _ _ _ _ w.if-slots_empty.true w.value-is (from_on slot_empty c.args.q.now.slots c.args.q.now.nodes 32 (omega arith) (rw c.from-n.ensures at c.slots_empty.ensures)) ((rw c.from-n.ensures at w.slots_fit.ensures) ∙ every_below (λ s. args_empty s.node) no_slot c.args.q.now.slots c.args.q.now.nodes (omega arith))
      | else-slots_empty w ↦ and_stop _ _ _ w.if-slots_empty.false w.value-is (from_on slot_empty c.args.q.now.slots c.args.q.now.nodes 32 (omega arith) (rw c.from-n.ensures at c.slots_empty.ensures))
    ]
    in
    proc_stop c.args.closed c.args.q.now two c.if-slots_fit.false
