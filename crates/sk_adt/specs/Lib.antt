pub mod Forms
pub mod Words
pub mod Faults
pub mod Branches
pub mod Chains
pub mod Builds
pub mod Lowering
