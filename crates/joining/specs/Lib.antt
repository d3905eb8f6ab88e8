pub mod Lowered
pub mod Cut
