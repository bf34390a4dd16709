pub mod TextLaws
pub mod FrontLaws
