pub mod Store
pub mod Kinds
pub mod Table
pub mod Bridge
pub mod Found
pub mod Answers
