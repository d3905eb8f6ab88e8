pub mod Register
pub mod Room
pub mod Written
