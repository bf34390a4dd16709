pub mod Unlike
pub mod Agreeing
pub mod Endings
pub mod Checks
