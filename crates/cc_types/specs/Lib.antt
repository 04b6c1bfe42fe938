pub mod Types
pub mod Marks
