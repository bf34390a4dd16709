pub mod Costs
pub mod Records
pub mod Conditions
pub mod Failing
