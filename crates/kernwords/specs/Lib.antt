pub mod Sizes
pub mod Books
pub mod Reports
