pub mod Laws
pub mod Logged
