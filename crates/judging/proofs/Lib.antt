pub mod Answers
pub mod Cases
pub mod Computing
pub mod Demands
pub mod Entries
mod Indices
mod Rounds
mod Sections
pub mod Walks
pub mod Whole
pub mod Widths
