pub mod Databases
pub mod Changes
pub mod Changing
pub mod Giving
pub mod Grouped
pub mod Shown
pub mod Searching
pub mod Preservation
