pub mod SoundParts
pub mod SoundLists
pub mod SoundPrimary
pub mod SoundExpressions
pub mod SoundStatements
pub mod SoundJumps
pub mod Sound
pub mod SoundTokens
