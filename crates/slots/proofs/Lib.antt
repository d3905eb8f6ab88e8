pub mod Walks
pub mod Stored
mod Starts
mod Searches
mod Turns
mod Under
mod Filled
mod Masks
mod Checks
pub mod Laws
mod Checking
