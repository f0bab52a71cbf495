pub mod Text
pub mod RowText
pub mod Reached
pub mod TextLaws
