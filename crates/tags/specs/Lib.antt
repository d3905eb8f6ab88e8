pub mod Names
pub mod Attributes
pub mod Tags
pub mod Twice
