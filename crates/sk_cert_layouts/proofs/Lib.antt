mod Clean
mod Texts
mod Names
mod Exprs
mod Stmts
mod Programs
mod Lines
