pub mod Nodes
pub mod Formulas
