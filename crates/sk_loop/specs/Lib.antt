pub mod Found
pub mod Countered
pub mod Session
pub mod Answered
pub mod Rounds
pub use Rattle.sk_loop_guesses.specs.Formulas
