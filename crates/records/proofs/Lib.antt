pub mod Missing
pub mod Laws
pub mod Told
mod Writes
mod Cases
