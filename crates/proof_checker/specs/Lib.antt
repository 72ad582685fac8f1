pub mod Answer
pub mod CircuitProof
pub mod ClauseLiterals
pub mod Judging
pub mod Lines
pub mod ProvedCircuit
pub mod ShortClause
pub mod Tables
