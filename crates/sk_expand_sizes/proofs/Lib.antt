pub mod Tallies
pub mod SumLaws
pub mod CountLaws
pub mod CallLaws
pub mod AnswerLaws
