pub mod Decimals
pub mod Forms
pub mod Fills
pub mod Computing
pub mod Cases
pub mod Written
