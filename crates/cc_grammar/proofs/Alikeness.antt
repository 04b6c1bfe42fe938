pub mod Alike
pub mod AlikeExpressions
pub mod AlikeStatements
