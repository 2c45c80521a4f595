pub mod Batches
pub mod Reports
