pub mod Terms
pub mod OfBulk
pub mod OfMessage
