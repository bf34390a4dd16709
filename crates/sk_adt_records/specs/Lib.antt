pub mod Steps
pub mod Heap
pub mod Eval
pub mod Exec
pub mod Run
