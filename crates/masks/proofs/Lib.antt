pub mod Computing
pub mod Laws
mod Setting
