pub mod Words
pub mod Spelled
pub mod GivenNames
pub mod Readings
