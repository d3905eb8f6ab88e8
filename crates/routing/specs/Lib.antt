pub mod Table
pub mod Lookup
pub mod Promise
pub mod Written
