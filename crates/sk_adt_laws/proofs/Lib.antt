pub mod Read
mod Walk
pub mod Built
mod Words
mod Stay
pub mod Structs
mod Computed
