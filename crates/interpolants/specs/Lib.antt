pub mod Interpolant
pub mod Replay
pub mod Parts
pub mod Sides
pub mod Splits
