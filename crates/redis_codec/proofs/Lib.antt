pub mod Again
pub mod Wholes
pub mod Numbers
pub mod Bounds
pub mod Words
pub mod Kept
