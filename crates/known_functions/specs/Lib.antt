pub mod Searching
pub mod Guessing
pub mod Stating
pub mod Forcing
