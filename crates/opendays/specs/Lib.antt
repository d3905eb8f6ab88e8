pub mod OpenDay
pub mod Questions
pub mod Counting
pub mod Promise
