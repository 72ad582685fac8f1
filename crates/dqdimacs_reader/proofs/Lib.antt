mod Keys
pub mod ReadIsSpelled
pub mod CompletedReadings
mod PiecesAnswer
mod Runs
pub mod SpelledClauses
pub mod SpelledIsRead
mod ExistentialPlaces
mod Words
pub mod XorLines
mod XorSteps
mod NumberWords
mod CanonicalWords
mod CanonicalParts
pub mod CanonicalFormula
