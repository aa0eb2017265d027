pub mod Histories
pub mod Follows
pub mod Reusing
pub mod Recording
