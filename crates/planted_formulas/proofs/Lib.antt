pub mod Lists
pub mod AddedGates
pub mod Truth
