pub mod Forms
pub mod Bytes
pub mod Keeping
pub mod Computing
pub mod Cases
