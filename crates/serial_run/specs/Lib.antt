pub mod Elision
pub mod Running
pub mod Serving
