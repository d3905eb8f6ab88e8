pub mod Prose
pub mod Plain
