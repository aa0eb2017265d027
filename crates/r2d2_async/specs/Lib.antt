pub mod Sources
pub mod Messages
