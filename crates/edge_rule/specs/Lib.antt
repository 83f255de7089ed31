pub mod Joins
pub mod Stealing
