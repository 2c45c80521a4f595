pub mod Sheets
pub mod Fresh
