pub mod TopLaws
pub mod ItemLaws
pub mod SignatureLaws
pub mod FreeLaws
pub mod WholeLaws
pub mod CheckLaws
