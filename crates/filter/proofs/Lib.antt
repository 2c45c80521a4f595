pub mod Held
pub mod Promises
pub mod Editings
pub mod Locatings
pub mod Writings
pub mod Edited
pub mod Slotting
pub mod Sounds
