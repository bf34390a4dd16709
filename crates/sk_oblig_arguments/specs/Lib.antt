pub mod Constants
pub mod Arguments
