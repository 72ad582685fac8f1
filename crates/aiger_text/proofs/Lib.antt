mod CanonicalCircuit
mod Cuts
pub mod FinishedFiles
mod FirstFaults
mod GroundedGates
pub mod SpelledHeaders
mod LineNumbers
mod NamedPlaces
pub mod NaturalTokens
mod NumberNames
pub mod ReadIsSpelled
pub mod ReadNetlist
pub mod ReadSymbols
pub mod RemainingLines
mod SpelledIsRead
mod SpelledNames
pub mod SpelledNetlist
pub mod SpelledSymbols
mod Stages
pub mod SpelledSymbolLines
pub mod Variables
pub mod WrittenLines
pub mod WrittenNetlist
pub mod WrittenSymbols
pub mod CircuitSteps
pub mod DefinedVariables
