pub mod Numbered
pub mod LargerGraphs
mod MadeNodes
mod BufferedValues
mod NodeReads
pub mod Supported
mod ConeMarks
mod Sides
pub mod WrittenBits
pub mod GatheredCones
mod PutInNodes
mod MadeGates
mod WordBits
