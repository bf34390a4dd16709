pub mod Gives
pub mod Envs
pub mod Leaves
pub mod Tables
pub mod Slots
