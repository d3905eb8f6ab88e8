pub mod Directory
pub mod Ready
