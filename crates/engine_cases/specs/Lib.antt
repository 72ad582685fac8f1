pub mod Turns
pub mod Ready
pub mod Guessing
pub mod Making
