pub mod Options
pub mod Counts
pub mod Lookups
pub mod Changes
