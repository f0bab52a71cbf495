pub mod RunLaws
pub mod EntryLaws
pub mod Text
pub mod TextLaws
