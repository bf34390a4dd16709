pub mod Orders
pub mod Guards
pub mod Walk
pub mod Sizes
pub mod Programs
pub mod Payments
