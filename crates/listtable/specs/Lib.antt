pub mod Lists
pub mod Propers
