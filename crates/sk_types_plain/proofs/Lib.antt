pub mod Places
pub mod PlainLaws
pub mod SteadyLaws
