pub mod Command
pub mod Examples
pub mod Parsed
pub mod Spelling
pub mod Words
