pub use Rattle.sk_oblig_asking.specs.Asking
pub use Rattle.sk_oblig_asking.specs.Formulas
pub use Rattle.sk_oblig_asking.specs.declared.asking
