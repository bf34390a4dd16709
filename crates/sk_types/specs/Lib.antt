pub mod Tops
pub mod Places
