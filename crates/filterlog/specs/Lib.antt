pub mod Commands
pub mod Answers
pub mod Runs
pub mod Logs
