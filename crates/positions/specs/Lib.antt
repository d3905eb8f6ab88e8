pub mod Positions
pub mod Written
