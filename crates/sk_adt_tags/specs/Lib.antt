pub mod Tags
pub mod Fields
