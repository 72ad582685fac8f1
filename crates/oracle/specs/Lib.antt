pub mod Calls
pub mod Searched
pub mod Fit
pub mod Limits
