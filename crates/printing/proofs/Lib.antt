pub mod Always
pub mod Bounds
pub mod Cases
pub mod Reports
mod Runs
mod Shapes
