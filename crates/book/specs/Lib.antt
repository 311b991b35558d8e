pub mod Refusals
pub mod Book
pub mod Calls
pub mod Runs
pub mod Levels
pub mod Laws
pub mod Kernel
