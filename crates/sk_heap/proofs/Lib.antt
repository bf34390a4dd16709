pub mod Zeros
pub mod Slots
pub mod Heaps
pub mod Structs
pub mod Allocs
pub mod ReadLaws
pub mod WriteLaws
pub mod Retakes
