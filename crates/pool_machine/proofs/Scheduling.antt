pub mod Delays
pub mod Openings
pub mod Heaps
pub mod Held
pub mod Jobs
