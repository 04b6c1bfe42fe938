pub mod Verdicts
pub mod Shown
pub mod Globals
pub mod Received
pub mod Scripts
