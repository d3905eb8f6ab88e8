pub mod Agree
pub mod Cases
pub mod Computing
pub mod Counting
pub mod Days
pub mod Facts
pub mod Order
