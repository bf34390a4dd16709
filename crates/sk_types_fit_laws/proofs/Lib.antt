pub mod Found
pub mod Owns
pub mod Exprs
pub mod Stmts
pub mod PlainNames
pub mod Whole
