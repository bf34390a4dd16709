pub mod NumberLemmas
pub mod RowsLemmas
pub mod ReadLemmas
pub mod TextLemmas
