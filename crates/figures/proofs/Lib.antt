pub mod Lengths
mod Pieces
