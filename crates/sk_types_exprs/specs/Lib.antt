pub mod ConstantFaults
pub mod OwnFaults
