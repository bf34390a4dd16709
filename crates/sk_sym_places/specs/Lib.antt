pub mod Places
pub use Rattle.sk_sym_stores.specs.Locations
pub use Rattle.sk_sym_stores.specs.Records
pub use Rattle.sk_sym_stores.specs.declared.creation.Init
pub use Rattle.sk_sym_stores.specs.declared.location.Location
pub use Rattle.sk_sym_stores.specs.declared.location.Root
