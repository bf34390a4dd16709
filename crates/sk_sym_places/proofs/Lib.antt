pub mod Layers
pub mod Places
pub use Rattle.sk_sym_stores.proofs.Assigning
pub use Rattle.sk_sym_stores.proofs.Locating
pub use Rattle.sk_sym_stores.proofs.Records
