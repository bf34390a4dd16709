pub mod Leaves
pub mod Formula
pub mod Codes
pub mod Signed
pub mod Standing
