pub mod StepTexts
pub mod Traced
pub mod Laws
