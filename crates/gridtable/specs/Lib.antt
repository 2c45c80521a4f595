pub mod Grids
pub mod Propers
