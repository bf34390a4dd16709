pub mod LawNames
