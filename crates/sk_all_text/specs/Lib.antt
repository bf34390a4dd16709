pub mod AllLines
pub mod AllTexts
pub mod Laws
pub use Rattle.sk_all_listing.specs.Formulas
pub use Rattle.sk_all_listing.specs.Reasons
pub use Rattle.sk_all_listing.specs.Completions
pub use Rattle.sk_built_laws.specs.Built
