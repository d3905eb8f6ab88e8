pub mod Index
pub mod Searches
pub mod Ready
