pub mod Plainer
pub mod Steady
