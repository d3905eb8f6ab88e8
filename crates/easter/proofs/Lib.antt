pub mod Cases
pub mod Computing
pub mod EachYear
pub mod Laws
