pub mod RuleLemmas
pub mod SimpleLemmas
