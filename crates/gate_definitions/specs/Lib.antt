pub mod Stating
pub mod Branches
pub mod Finding
