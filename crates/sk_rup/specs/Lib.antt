pub mod Checker
pub mod Look
pub mod Packed
pub mod Scan
pub mod Steps
pub mod Visit
