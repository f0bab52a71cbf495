pub mod WrittenAndRead
pub mod SideBySide
pub mod WrittenAndReadLaws
pub mod SideBySideLaws
pub mod LineTwo
