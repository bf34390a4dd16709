pub mod Asking
pub use Rattle.sk_oblig.specs.Formulas
