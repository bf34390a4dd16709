pub mod Ordering
pub mod Apart
pub mod Proposals
pub mod Lists
