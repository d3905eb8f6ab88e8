pub mod Cases
pub mod Computing
pub mod Fields
pub mod Laws
