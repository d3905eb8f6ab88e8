pub mod Computing
pub mod Numbers
pub mod Scans
pub mod Sides
pub mod Stores
pub mod Texts
