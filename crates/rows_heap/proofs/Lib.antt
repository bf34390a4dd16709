pub mod ValueLaws
pub mod WorldLaws
