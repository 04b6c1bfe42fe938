pub mod Turns
pub mod CursorLemmas
pub mod LabelLemmas
pub mod NameLemmas
