pub mod Readers
pub mod PatternReader
pub mod ExprReader
pub mod StringReader
pub mod StmtReader
pub mod ItemReader
pub mod Faults
pub mod Laws
