pub mod ValueTexts
pub mod RunTexts
pub mod SelfTexts
pub mod CheckTexts
pub mod Messages
pub mod Examples
