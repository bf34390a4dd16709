pub mod Least
pub mod Search
pub use Rattle.sk_loop.specs.Formulas
