pub mod Certifications
pub mod Claims
pub use Rattle.sk_min.specs.Least
