pub mod Meanings
pub mod Written
