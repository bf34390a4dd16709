pub mod Made
pub mod Nodes
pub mod Walking
pub mod Whole
