pub mod Judgement
pub mod Searches
pub mod Outcome
pub mod Indexed
pub mod Ready
