pub mod Cases
pub mod Computing
pub mod Laws
mod Search
