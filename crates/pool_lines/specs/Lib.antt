pub mod Faults
pub mod Lines
pub mod Number
pub mod Texts
pub mod Steps
pub mod Script
