mod VariableBits
mod EmptyTables
pub mod TableAnswers
pub mod InstanceModels
pub mod FoundPoints
mod WrittenBits
mod Told
pub mod Firsts
pub mod TableGrowth
mod NamedArbiters
mod InstanceLiterals
pub mod GivenInstances
pub mod AddedRows
mod PreservedTables
mod ComparedRows
mod RowOrders
mod SharedSets
