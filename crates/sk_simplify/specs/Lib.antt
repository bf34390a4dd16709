pub mod Rules
pub mod Reduct
