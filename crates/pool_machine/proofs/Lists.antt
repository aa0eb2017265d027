pub mod Ids
pub mod Slots
pub mod Filters
pub mod Lending
pub mod Counting
pub mod Turning
pub mod Shedding
pub mod Expiring
