mod StreamLemmas
mod EndingLemmas
mod EndedLaws
mod Endings
mod ToldLaws
mod JobLaws
mod SourceLaws
mod ExecLaws
mod LowerLaws
mod PruneLaws
mod QuestionLaws
mod CheckLaws
mod EffectLaws
mod HeadlineLaws
mod ListingsLaws
mod KeptLaws
pub mod SpentLaws
pub mod CompleteLaws
