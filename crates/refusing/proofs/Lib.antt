mod Checking
pub mod Clear
pub mod Computing
pub mod Numbers
