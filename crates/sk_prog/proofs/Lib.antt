mod ExampleFits
mod SameFits
pub mod Unseen
