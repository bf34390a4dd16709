pub mod Elements
pub mod Replacing
pub mod Locating
pub mod Naming
pub mod Variables
pub mod Fields
pub mod Assigning
pub mod Records
