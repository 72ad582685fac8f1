mod GrownDatabases
pub mod PreservedDatabases
pub mod Stacks
mod ChangedDatabases
pub mod AddedClauses
mod LiveModels
mod LiveRefutations
pub mod GroupedFrames
mod MadeGroups
mod GivenClauses
pub mod DatabasesGiving
pub mod FreshGroups
mod BegunDatabases
mod AddedRows
pub mod LivePlaces
mod Searches
pub mod LiveFormulas
