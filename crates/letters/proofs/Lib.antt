pub mod Scans
pub mod Walks
pub mod Characters
pub mod References
