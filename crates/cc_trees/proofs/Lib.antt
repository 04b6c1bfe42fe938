pub mod TreeLemmas
pub mod TargetLemmas
pub mod PartLemmas
pub mod Chains
