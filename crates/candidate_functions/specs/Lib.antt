pub mod AtRow
pub mod Candidates
pub mod Differing
pub mod Pairs
pub mod Settling
pub mod Trees
