pub mod Words
pub mod Refusals
pub mod Accepts
pub mod Lasts
pub mod Selects
