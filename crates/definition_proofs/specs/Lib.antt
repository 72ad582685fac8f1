pub mod Shown
pub mod Terms
pub mod Leaves
pub mod Differing
pub mod Searching
pub mod Proving
