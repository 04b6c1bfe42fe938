pub mod Shown
pub mod Meant
pub mod Keys
pub mod ShownStarts
pub mod Reads
