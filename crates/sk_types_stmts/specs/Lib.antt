pub mod Targets
pub mod Rooms
pub mod Statements
