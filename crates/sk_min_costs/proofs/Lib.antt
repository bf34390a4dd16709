pub mod Places
pub mod Steps
pub mod Exprs
pub mod Stmts
pub mod Paid
pub mod Runs
