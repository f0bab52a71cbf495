pub mod Values
pub mod ValuesLaws
