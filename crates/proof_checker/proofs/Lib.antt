pub mod DerivedLines
pub mod NegatedClauses
pub mod WitnessAssignments
pub mod RefutedNegations
pub mod KeptLiterals
pub mod MatrixPlaces
pub mod ShortenedClauses
pub mod JudgedProofs
