pub mod Parts
pub mod Heads
pub mod Forms
pub mod Readings
pub mod Tallies
pub mod Moving
pub mod Shifting
pub mod Searching
