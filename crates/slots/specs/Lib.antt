pub mod Slots
pub mod Stored
pub mod Asked
