pub mod Carried
mod Emptied
mod FewUnits
mod Kept
pub mod KeptSoFar
pub mod LeftLiterals
pub mod LiteralRoles
pub mod LoweredRows
pub mod OpenLiterals
pub mod Reduction
pub mod SeenUniversals
pub mod SignedLiterals
mod Remainders
pub mod ToldValues
pub mod Units
pub mod WellFormed
