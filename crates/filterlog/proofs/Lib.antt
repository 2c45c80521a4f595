pub mod Spelling
pub mod Beginning
pub mod Growing
pub mod Stopping
pub mod Listing
