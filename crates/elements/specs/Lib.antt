pub mod Forest
pub mod Grammar
pub mod Notes
pub mod Questions
