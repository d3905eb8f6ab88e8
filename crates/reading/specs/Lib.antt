pub mod Text
pub mod Meaning
pub mod Survey
pub mod Filling
pub mod Reading
