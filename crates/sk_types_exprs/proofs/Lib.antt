pub mod PartLaws
pub mod MeantLaws
pub mod FaultLaws
