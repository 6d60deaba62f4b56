pub mod ExprCodes
pub mod ExprFalls
pub mod StmtFalls
pub mod StmtCodes
