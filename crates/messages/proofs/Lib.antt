mod Amounts
pub mod Computing
pub mod Demands
mod Loops
mod Sums
mod Verdicts
pub mod Walks
pub mod Widths
