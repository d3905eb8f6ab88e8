pub mod Response
pub mod Writing
