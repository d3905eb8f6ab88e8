pub mod Roles
pub mod Table
