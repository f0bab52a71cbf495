pub mod Label
pub mod Graph
pub mod ReasonLaws
