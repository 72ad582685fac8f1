pub mod Blocks
pub mod Dependencies
pub mod Layout
pub mod Prefix
pub mod Rules
pub mod Sets
pub mod Xor
