mod Places
mod Related
mod Quiet
mod Stores
mod Making
mod Fine
mod Forms
mod Fields
mod Rows
mod Exprs
mod Stmts
pub mod Calling
mod Computed
