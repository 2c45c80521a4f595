pub mod Doing
pub mod Sheets
