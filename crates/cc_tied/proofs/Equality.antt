pub mod Equal
pub mod EqualUpkeep
pub mod EqualModes
pub mod Reflexive
pub mod EqualRuns
pub mod Erase
