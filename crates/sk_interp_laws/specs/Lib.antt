pub mod Recording
pub mod Eval
pub mod Exec
pub mod Run
pub mod Path
pub mod Kept
pub mod Laws
pub mod Examples
