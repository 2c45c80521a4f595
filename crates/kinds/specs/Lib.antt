pub mod Bytes
pub mod Examples
pub mod Faults
pub mod Hashes
pub mod Keys
pub mod Sequences
pub mod Hashing
pub mod Glyphs
