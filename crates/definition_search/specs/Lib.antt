pub mod Texts
pub mod Searching
