pub mod Direct
pub mod Laws
