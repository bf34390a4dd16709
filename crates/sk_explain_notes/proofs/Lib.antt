pub mod NoteLemmas
pub mod NumberLemmas
pub mod QuietLaws
