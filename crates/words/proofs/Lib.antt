pub mod Fields
pub mod Ones
pub mod Rows
pub mod Copies
