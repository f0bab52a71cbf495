pub mod NodeLines
pub mod NodeLineLaws
