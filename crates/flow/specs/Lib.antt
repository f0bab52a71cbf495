pub mod Flow
pub mod FlowLaws
