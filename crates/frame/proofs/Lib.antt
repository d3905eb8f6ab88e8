pub mod Laws
mod Parts
