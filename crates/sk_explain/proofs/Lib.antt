pub mod AsciiLaws
pub mod QuietLaws
