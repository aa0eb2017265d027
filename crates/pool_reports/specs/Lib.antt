pub mod Verdicts
pub mod Summaries
pub mod Calling
