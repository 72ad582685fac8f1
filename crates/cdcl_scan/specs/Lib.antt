pub mod Passes
pub mod Runs
pub mod Scanning
pub mod Searching
pub mod Solver
pub mod Storage
