pub mod Resp
pub mod Answers
pub mod Requests
pub mod Sessions
pub mod Talks
