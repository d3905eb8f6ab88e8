pub mod Messages
pub mod Searches
pub mod Ready
