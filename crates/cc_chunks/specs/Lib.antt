pub mod Graph
pub mod Faults
pub mod Sets
pub mod Tables
pub mod Numbers
pub mod Built
