pub mod Parts
pub mod SlotLaws
pub mod ListLaws
pub mod ArcLaws
pub mod TableLaws
