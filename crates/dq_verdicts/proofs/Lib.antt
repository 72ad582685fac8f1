pub mod ShownVerdicts
mod LiftedVerdicts
