pub mod Judged
pub mod Opening
