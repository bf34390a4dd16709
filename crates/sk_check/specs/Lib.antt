pub mod Verdicts
pub use Rattle.sk_oblig.specs.Formulas
