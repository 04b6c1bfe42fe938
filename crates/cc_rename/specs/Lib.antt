pub mod Order
pub mod Uses
pub mod Naming
pub mod Steps
pub mod Counting
pub mod Laws
