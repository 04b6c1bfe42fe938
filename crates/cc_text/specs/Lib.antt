pub mod Ends
pub mod Characters
pub mod Utf16
pub mod Escape
pub mod Whole
