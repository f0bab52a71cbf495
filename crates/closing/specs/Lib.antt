pub mod Dirty
pub mod ClosedTable
pub mod Closing
pub mod Close
pub mod Program
pub mod Reasons
