pub mod Chain
pub mod Waits
pub mod Changes
pub mod Facts
pub mod Reach
pub mod Table
