pub mod Cases
pub mod Computing
pub mod Laws
pub mod Moves
pub mod Whole
