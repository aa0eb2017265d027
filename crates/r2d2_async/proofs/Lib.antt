pub mod Needs
pub mod Making
