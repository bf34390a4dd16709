pub mod Reasons
pub use Rattle.sk_loop.specs.Formulas
pub use Rattle.sk_loop.specs.Countered
pub use Rattle.sk_loop.specs.declared.countered
