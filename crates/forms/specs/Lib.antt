pub mod Faults
pub mod Rows
pub mod Shapes
pub mod Fields
pub mod Meaning
