pub mod Opened
pub mod ForLemmas
pub mod ClauseLemmas
pub mod StartLemmas
