pub mod Parts
pub mod Together
pub mod Both
pub mod Scopes
