pub mod Commands
pub mod Reading
pub mod Lawful
pub mod Frames
pub mod Steps
pub mod Examples
