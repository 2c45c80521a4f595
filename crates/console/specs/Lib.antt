pub mod Requests
pub mod Texts
pub mod Sending
pub mod Endings
