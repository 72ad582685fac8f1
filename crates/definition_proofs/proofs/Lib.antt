pub mod KnownTerms
pub mod NodeLiterals
pub mod GivenDifferences
pub mod Refutations
pub mod NoModels
pub mod ProvedDefinitions
pub mod DeclaredSides
