pub mod LargerGraphs
pub mod RowCubes
pub mod PatchedNodes
pub mod DeclaredPlaces
pub mod RuleNodes
pub mod DependencyClasses
pub mod AgreeingNodes
pub mod UndefinedOutputs
pub mod AtRows
pub mod DefinedPoints
pub mod AllOutputs
pub mod SettledDefinitions
pub mod TreeNodes
pub mod WrittenRows
pub mod KnownPoints
mod RowWords
pub mod PatchedPairs
