pub mod FormPatterns
pub mod ParseLaws
pub mod Verdicts
pub mod WalkLaws
