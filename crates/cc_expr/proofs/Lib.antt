pub mod Opened
pub mod HeadLemmas
pub mod ListLemmas
pub mod OperatorLemmas
pub mod SuffixLemmas
pub mod PrefixLemmas
pub mod ConditionalLemmas
