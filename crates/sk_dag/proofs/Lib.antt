pub mod NodeEq
pub mod GraphLemmas
pub mod EvalLemmas
pub mod WordLemmas
pub mod ReachLemmas
pub mod BelowLemmas
