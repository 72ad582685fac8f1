pub mod Accepted
pub mod Forms
pub mod Shown
pub mod Verdicts
