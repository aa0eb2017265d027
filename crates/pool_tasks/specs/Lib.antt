pub mod Wakers
pub mod Looks
pub mod InTime
pub mod History
pub mod Leaving
