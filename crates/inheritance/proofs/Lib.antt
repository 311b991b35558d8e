pub mod Rows
pub mod Mosts
pub mod Settling
