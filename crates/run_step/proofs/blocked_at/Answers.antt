-- Each kind that can be blocked asks its own; the others never are.
use Rattle.std.proofs.Common.{rules}
use Rattle.run_step.specs.EffectLaws.{stuck_call, stuck_wait, stuck_signal, stuck_send, stuck_receive, stuck_return, stuck_none}
use Rattle.run_step.proofs.blocked_at.Goals as goal

pub returns-in-5 : goal.returns-in-5
returns-in-5 c = search (rules, stuck_call)

pub returns-in-6 : goal.returns-in-6
returns-in-6 c = rw c.sem_at.ensures (search (rules, stuck_wait))

pub returns-in-7 : goal.returns-in-7
returns-in-7 c = rw c.sem_at-in-7.ensures (search (rules, stuck_signal))

pub returns-in-8 : goal.returns-in-8
returns-in-8 c = rw c.len_at.ensures (search (rules, stuck_send))

pub returns-in-9 : goal.returns-in-9
returns-in-9 c = rw c.len_at-in-9.ensures (search (rules, stuck_receive))

pub returns-in-12 : goal.returns-in-12
returns-in-12 c = search (rules, stuck_return)

pub returns-in_default : goal.returns-in_default
returns-in_default c = search (rules, stuck_none)
