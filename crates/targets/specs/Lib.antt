pub mod Judged
pub mod MaskTests
pub mod ListChecks
