pub mod CompleteLists
pub mod CompleteOperands
pub mod CompleteOperators
pub mod CompleteExpressions
pub mod CompleteClauses
pub mod CompleteStatements
pub mod Complete
pub mod CompleteTokens
