-- `run_state::answer` answers the state that the arrays hold.
use Rattle.std.proofs.Common.{ap}
use Rattle.machine.specs.declared.State.{State}
use Rattle.run_state.specs.Begins.{running_of}
use Rattle.run_state.specs.BeginLaws.{state_is, stated_wide}
use Rattle.run_state.proofs.answer.Goals as goal

pub queues-q-requires : goal.queues-q-requires
queues-q-requires c = stated_wide c.requires

pub returns : goal.returns
returns c = λ s h em ec.
    let a = c.args in
    ap (λ (x : State). running_of a.steps a.used a.stop x) (state_is s h em ec c.frames-f.ensures c.queues-q.ensures)
