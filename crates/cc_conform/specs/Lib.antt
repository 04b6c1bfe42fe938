pub mod Bridge
pub mod Slots
pub mod Met
pub mod Prototypes
pub mod Operands
pub mod Uses
