pub mod MeaningLemmas
pub mod ProblemLemmas
pub mod ScanLemmas
pub mod SplitLemmas
pub mod ValueLemmas
