pub mod CountLaws
pub mod Powers
