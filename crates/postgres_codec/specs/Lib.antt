pub mod Frames
pub mod Messages
pub mod Requests
pub mod Talks
