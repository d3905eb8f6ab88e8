pub mod Values
pub mod Prologs
pub mod Computing
pub mod Cases
pub mod Laws
