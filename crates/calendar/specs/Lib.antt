pub mod Date
pub mod Days
