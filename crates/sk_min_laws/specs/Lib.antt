pub mod Best
pub mod Laws
