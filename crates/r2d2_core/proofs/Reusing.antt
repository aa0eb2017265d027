pub mod Sorted
pub mod Choices
pub mod Moves
