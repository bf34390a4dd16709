pub mod Order
pub mod Completions
pub mod Rounds
pub use Rattle.sk_all.specs.Formulas
pub use Rattle.sk_all.specs.Reasons
pub use Rattle.sk_all.specs.declared.answer
