pub mod Circuits
pub mod Meaning
pub mod Examples
pub mod Engines
pub mod Sessions
