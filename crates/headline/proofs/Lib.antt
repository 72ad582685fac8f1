pub mod Copies
pub mod OneFormula
pub mod Xors
pub mod Negations
pub mod DefinedCopies
pub mod OneScript
pub mod AnsweredSession
