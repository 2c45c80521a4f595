pub mod Rows
pub mod Keeping
pub mod Fieldings
pub mod Lines
pub mod Singles
