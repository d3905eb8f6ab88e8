pub mod Fields
pub mod Lengths
mod Pieces
