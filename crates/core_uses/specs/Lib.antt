pub mod Calls
pub mod Counted
