pub mod Values
pub mod Day
