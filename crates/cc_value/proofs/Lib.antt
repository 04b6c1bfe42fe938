pub mod Numbers
pub mod TextLemmas
pub mod Cases
pub mod OtherCases
pub mod Ruled
