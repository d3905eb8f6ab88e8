pub mod Names
pub mod Values
pub mod AttributeWalk
pub mod Searches
pub mod Late
pub mod Split
pub mod Blocks
pub mod Tags
