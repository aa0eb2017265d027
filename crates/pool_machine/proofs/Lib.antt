pub mod Lists
pub mod Scheduling
pub mod Facts
