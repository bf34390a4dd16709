pub mod Seen
pub mod Stands
pub mod Shows
pub mod Meaning
pub mod Branching
pub mod Variables
