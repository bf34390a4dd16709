pub mod Ifs
pub mod Firsts
pub mod Roles
