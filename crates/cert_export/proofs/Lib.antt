mod Renamings
pub mod ReachedLines
mod CutHints
pub mod DerivedLines
pub mod Allowed
pub mod Answers
pub mod Numbers
pub mod PairNames
pub mod Instances
mod AcceptedRefutations
mod NewNames
mod AscendingPlaces
pub mod GivenNames
mod FaultLeaves
mod NamePlaces
mod GatePlaces
mod NeededGates
mod ListedGates
mod ExportedParts
mod SmallNumbers
mod FileGates
mod SmallerSides
mod GateVariables
pub mod ExportableCircuits
mod NeededHints
mod WrittenLines
mod ExportableAnswers
mod ExportableLogs
mod RoundRows
mod UsedRounds
mod MarkedRounds
mod SameCuts
mod NamedPairs
pub mod LineCounts
pub mod Codes
pub mod CircuitNumbers
pub mod CircuitClauses
mod ExportedCircuits
mod ExportedAnswers
mod MappedSymbols
mod SpellableCircuits
mod NumberNames
mod MatrixIds
