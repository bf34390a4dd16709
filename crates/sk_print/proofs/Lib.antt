pub mod Lexed
mod Mapped
mod SameLayout
mod ExampleTexts
mod Texts
