pub mod Printed
pub mod Served
pub mod Sendings
pub mod Readings
