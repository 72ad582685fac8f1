pub mod ClausePasses
pub mod ClauseRuns
pub mod KeptModels
pub mod NamedVariables
