pub mod Figures
pub mod Numbers
pub mod Amounts
pub mod Lines
pub mod Coming
