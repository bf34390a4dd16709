pub mod Counting
pub mod Unique
pub mod Answering
pub use Rattle.sk_built_laws.proofs.Taken
