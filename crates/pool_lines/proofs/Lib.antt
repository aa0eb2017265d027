pub mod Fields
pub mod Writing
pub mod Playing
pub mod Texts
