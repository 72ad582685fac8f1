pub mod Chains
pub mod Deletions
pub mod Laws
pub mod LastUses
