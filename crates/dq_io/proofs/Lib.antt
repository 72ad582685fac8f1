pub mod KnownLists
pub mod Places
