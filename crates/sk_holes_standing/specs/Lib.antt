pub mod Marks
pub mod Met
pub mod Standing
pub mod Functions
