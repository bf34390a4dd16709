pub mod Lengths
pub mod Trees
