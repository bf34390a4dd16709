pub mod Agree
pub mod Exprs
pub mod Stmts
pub mod Runs
pub mod Forms
pub mod Computed
