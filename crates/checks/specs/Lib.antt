pub mod Judging
pub mod ArgumentChecks
pub mod ValueChecks
pub mod NodeChecks
