pub mod Awake
pub mod Passing
pub mod Drained
pub mod Closed
pub mod InTime
pub mod Ordering
pub mod History
pub mod Leaving
