pub mod NoFront
pub mod FirstFaults
pub mod Refusals
pub mod Verdicts
pub mod Refutations
pub mod PlainFaults
pub mod FirstRefusals
pub mod NoFaults
