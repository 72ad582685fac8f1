pub mod Found
pub mod Implied
pub mod ReachedClauses
pub mod Refuted
pub mod Solved
pub mod LeafFunctions
pub mod FewRows
mod SettledClauses
mod Checks
mod FalseLog
mod MissedPoints
mod TrueLog
mod ProductiveTrueLog
mod MissedTurns
mod TrueDecided
pub mod LargerLogs
pub mod Kept
pub mod LiveAnswers
mod LiveEngines
