pub mod Parts
pub mod Views
pub mod Writes
pub mod Searches
pub mod Moves
