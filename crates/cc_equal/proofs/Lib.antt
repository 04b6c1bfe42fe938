pub mod OneExpr
pub mod OneStmt
pub mod Bodies
