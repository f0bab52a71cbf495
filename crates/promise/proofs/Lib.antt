pub mod Sim
pub mod Proof3
pub mod Theorems
pub mod ExploredHold
pub mod Instance
pub mod Calls
pub mod RoundTripCalls
