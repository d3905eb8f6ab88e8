pub mod Lengths
mod Places
mod Turns
