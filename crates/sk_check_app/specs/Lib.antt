pub mod Ending
pub mod Call
pub mod Judging
pub mod Clauses
