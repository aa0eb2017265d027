pub mod Longer
pub mod Places
pub mod Sums
