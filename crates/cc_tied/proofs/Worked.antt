pub mod FoldExample
pub mod DropExample
pub mod FoldKeeps
pub mod DropFacts
pub mod DropKeeps
pub mod InlineExample
pub mod InlineKeeps
