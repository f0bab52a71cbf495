pub mod Terms
pub mod MaskLaws
pub mod NodeLaws
pub mod Steps
