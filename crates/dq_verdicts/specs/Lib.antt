pub mod Outputs
pub mod Shown
pub mod Statuses
pub mod Prepared
