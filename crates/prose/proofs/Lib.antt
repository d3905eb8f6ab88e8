pub mod Turns
pub mod Pieces
pub mod Runs
pub mod Straight
mod Sayings
