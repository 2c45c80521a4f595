pub mod Faults
pub mod Rules
pub mod History
pub mod Law
pub mod Texts
pub mod Beginnings
