mod CurrentFormulas
mod FirstLogs
mod FollowedCommands
mod FoundVerdicts
mod SearchEnds
mod SearchedSessions
mod SearchedLogs
mod TakenCommands
mod TwoFiles
mod WholeSessions
pub mod Followed
pub mod GrownSessions
mod Lists
pub mod SessionInvariant
