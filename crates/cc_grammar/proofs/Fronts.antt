pub mod FrontsLists
pub mod FrontsPrimary
pub mod FrontsExpressions
pub mod FrontsClauses
pub mod FrontsFor
pub mod FrontsStatements
pub mod FrontsJumps
pub mod FrontsProgram
