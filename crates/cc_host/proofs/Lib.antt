pub mod HostLemmas
pub mod MemoryHostLemmas
