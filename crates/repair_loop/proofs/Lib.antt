mod Rows
mod Extends
mod UniversalInputs
mod GrownSessions
mod ReadySearchStates
mod WholeSearches
pub mod LogGrowth
mod LiveGrowth
pub mod LiveDatabases
mod StoredGroups
mod UnnamedBefore
mod NewFaults
mod Stages
mod Stops
mod Turned
mod Beginnings
mod PlainDecisions
mod WholeFormulas
mod FileDecisions
mod EndedSearchStates
mod FirstSearchStates
mod PrefixCopies
mod FollowedCopies
mod Constants
