pub mod SiteLaws
pub mod Counts
pub mod StmtCounts
