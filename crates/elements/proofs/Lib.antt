pub mod Forests
pub mod Fields
pub mod Forward
pub mod Steps
pub mod Contents
pub mod Overs
pub mod Elements
pub mod Noting
pub mod Calm
mod Cases
