pub mod TermOrder
pub mod ExportedDefinition
pub mod Exporting
pub mod Closing
pub mod Ground
pub mod Parts
