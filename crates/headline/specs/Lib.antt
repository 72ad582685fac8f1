pub mod Headline
pub mod Examples
pub mod BlackBoxes
pub mod Sessions
pub mod SessionExamples
