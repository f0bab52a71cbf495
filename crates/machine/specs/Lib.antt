pub mod State
pub mod Step
pub mod Run
pub mod Report
pub mod Words
pub mod Program
