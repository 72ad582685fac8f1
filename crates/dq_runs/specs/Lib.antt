pub mod Ending
pub mod FaultNames
pub mod FileTexts
pub mod FormulaFiles
pub mod Printed
pub mod Sinks
pub mod Statuses
