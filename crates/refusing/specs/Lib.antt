pub mod Refusals
pub mod Checking
