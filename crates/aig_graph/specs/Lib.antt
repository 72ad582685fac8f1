pub mod Graph
pub mod Made
pub mod Joining
pub mod Marking
pub mod Outputs
pub mod Substituting
pub mod Putting
pub mod Words
