pub mod Put
pub mod Calls
pub mod PutLaws
pub mod RowLaws
pub mod Lists
pub mod ListLaws
