pub mod Numbers
pub mod Widths
pub mod Said
pub mod Queries
pub mod Laws
