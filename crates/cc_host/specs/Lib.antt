pub mod Count
pub mod Host
pub mod MemoryHost
pub mod FileHost
