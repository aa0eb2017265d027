pub mod Above
pub mod Bounds
pub mod Closings
pub mod Counted
pub mod Heard
pub mod Longest
pub mod Printed
pub mod Recording
