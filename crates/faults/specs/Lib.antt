pub mod Bits
pub mod Faults
pub mod Asked
