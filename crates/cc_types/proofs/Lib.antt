pub mod Ancestry
pub mod Marking
pub mod Extending
