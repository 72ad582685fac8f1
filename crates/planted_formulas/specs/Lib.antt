pub mod Planted
pub mod Examples
