pub mod Word
pub mod Graph
pub mod Eval
pub mod EvalShape
pub mod Reach
pub mod Below
