pub mod Sofar
pub mod Pages
pub mod Beginning
pub mod Ones
pub mod Streams
