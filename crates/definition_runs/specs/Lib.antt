pub mod Definitions
pub mod DefinedFiles
