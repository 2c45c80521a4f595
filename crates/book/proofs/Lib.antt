pub mod Entries
pub mod Refusals
pub mod Holding
pub mod Opening
pub mod Turns
pub mod Reaching
