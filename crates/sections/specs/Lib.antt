pub mod Layout
pub mod Sections
