-- The simulation behind demand 3: what the reader grants (Wf), stores, variables, a node, a walk, a state, a step, the log, the first state, a run.
pub mod Wf
pub mod Grants
pub mod Stores
pub mod Locals
pub mod Exec
pub mod Walk
pub mod Same
pub mod Blocked
pub mod Call
pub mod Step
pub mod Log
pub mod Begin
pub mod Run
