pub mod Defined
mod AskedEntries
mod Asked
mod Forced
mod ConsistentConditions
mod StatedRules
