pub mod ReadsStatements
pub mod StatementSteps
pub mod ClauseSteps
pub mod ForSteps
