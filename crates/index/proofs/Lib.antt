pub mod Ways
pub mod Laws
mod Telling
pub mod Computing
pub mod Cases
