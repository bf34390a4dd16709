mod Others
mod Bodies
mod Heads
mod Typed
pub mod Tags
pub mod Rules
pub mod Composed
mod Words
pub mod Shown
