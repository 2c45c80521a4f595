pub mod Books
pub mod Standings
pub mod Reached
