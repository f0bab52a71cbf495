pub mod Ready
pub mod ReadyLaws
pub mod Code
pub mod CodeLaws
