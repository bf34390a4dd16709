pub mod SumLemmas
pub mod RootLemmas
