pub mod Runs
pub mod Weights
pub mod Pairs
pub mod Cuts
pub mod Words
pub mod Singles
