pub mod Table
pub mod FirstRows
pub mod Silence
pub mod Searches
pub mod Giving
pub mod Adding
pub mod Preservation
