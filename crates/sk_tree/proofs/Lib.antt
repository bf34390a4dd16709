pub mod Folds
pub mod Says
pub mod Layers
pub mod KindLaws
pub mod TextLemmas
pub mod ExampleLemmas
pub mod OfferLemmas
pub mod EmptyString
