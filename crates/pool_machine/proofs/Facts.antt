pub mod Accounted
pub mod Steady
pub mod Sounds
pub mod Wholes
pub mod Steps
pub mod Latest
pub mod Legal
pub mod Apart
