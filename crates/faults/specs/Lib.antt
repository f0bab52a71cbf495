pub mod Checked
pub mod FaultLaws
