pub mod Decimals
mod Limbs
pub mod Lengths
pub mod Runs
mod Stored
