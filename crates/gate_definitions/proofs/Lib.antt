mod ChoiceHalves
mod ImpliedLiterals
mod GateNodes
mod DeclaredPlaces
mod Readable
mod BranchNodes
