pub mod Rows
pub mod Texts
pub mod Encoded
pub mod Again
pub mod Kept
pub mod Worked
