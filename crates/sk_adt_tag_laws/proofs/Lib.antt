pub mod Follow
pub mod Rows
pub mod Exprs
pub mod Stmts
pub mod Filled
pub mod WalkedExprs
pub mod WalkedStmts
pub mod Ahead
pub mod Expanded
pub mod Fillings
mod Computed
