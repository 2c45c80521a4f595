pub mod Replays
pub mod Alone
