pub mod Cases
pub mod Computing
pub mod Count
pub mod Next
pub mod Stretch
pub mod Laws
pub mod Meaning
