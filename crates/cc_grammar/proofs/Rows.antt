mod InsertionRows
mod SyntaxRows
mod RefusedRows
mod TreeRows
mod DepthRows
mod FrontRows
mod ProgramRows
