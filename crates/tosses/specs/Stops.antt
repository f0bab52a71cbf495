-- The code's stops and document 01's.
use Rattle.std.specs.Prelude.{ℕ, ◌≡◌}
use Rattle.std.proofs.Common.{refl}
use Rattle.machine.specs.Step as step
use Rattle.machine.specs.Step.{no_such_task, log_full, task_lost, task_blocked, too_many, values_spent, bad_toss, stop_number}
use Rattle.tosses.specs.declared.Stop.{Stop}
use Rattle.tosses.specs.declared.Stop.TheVariants.{NoSuchTask, LogFull, TaskLost, TaskBlocked, TooMany, ValuesSpent, BadToss}

-- the stop that the code answers for one of document 01's
abbrev pub said : step.Stop → Stop
said no_such_task = NoSuchTask
said log_full = LogFull
said task_lost = TaskLost
said task_blocked = TaskBlocked
said too_many = TooMany
said values_spent = ValuesSpent
said bad_toss = BadToss

-- and the one that an answer means
abbrev pub meant : Stop → step.Stop
meant NoSuchTask = no_such_task
meant LogFull = log_full
meant TaskLost = task_lost
meant TaskBlocked = task_blocked
meant TooMany = too_many
meant ValuesSpent = values_spent
meant BadToss = bad_toss

pub said_meant : (c : Stop) → said (meant c) ≡ c
said_meant NoSuchTask = refl
said_meant LogFull = refl
said_meant TaskLost = refl
said_meant TaskBlocked = refl
said_meant TooMany = refl
said_meant ValuesSpent = refl
said_meant BadToss = refl

abbrev pub number_of : Stop → ℕ
number_of c = stop_number (meant c)

pub number_said : (c : step.Stop) → number_of (said c) ≡ stop_number c
number_said no_such_task = refl
number_said log_full = refl
number_said task_lost = refl
number_said task_blocked = refl
number_said too_many = refl
number_said values_spent = refl
number_said bad_toss = refl
