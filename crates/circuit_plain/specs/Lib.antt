pub mod Blocks
pub mod Ground
pub mod Netlist
pub mod Order
pub mod Reach
pub mod Steps
pub mod Value
pub mod Words
