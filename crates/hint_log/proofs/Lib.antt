mod KeptOrder
mod KeptLives
pub mod KeptEntries
pub mod Lawful
mod Logged
mod KeptNames
mod ReachedIds
mod OrderedNames
pub mod NamedEntries
