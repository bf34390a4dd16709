pub mod Formula
pub mod Heading
pub mod Reading
pub mod Written
