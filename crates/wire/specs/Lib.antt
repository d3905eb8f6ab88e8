pub mod Field
pub mod Places
pub mod Written
