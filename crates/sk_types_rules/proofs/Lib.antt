pub mod Nearest
pub mod SortLaws
pub mod Layers
pub mod ExampleLemmas
