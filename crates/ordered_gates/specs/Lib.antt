pub mod Circuits
pub mod Laws
