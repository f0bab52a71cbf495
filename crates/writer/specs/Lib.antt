pub mod Table
pub mod TableLaws
pub mod CountsLaws
pub mod WriteLaws
