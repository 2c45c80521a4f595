pub mod Weights
pub mod Entries
pub mod Keys
pub mod Rolls
pub mod Answers
pub mod Histories
pub mod Laws
pub mod Ones
