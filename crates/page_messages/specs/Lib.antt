pub mod Posts
pub mod Fitting
