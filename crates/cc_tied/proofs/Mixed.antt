pub mod KeptPaths
pub mod KeptSets
pub mod MixedTables
pub mod MixedSame
pub mod MixedBound
