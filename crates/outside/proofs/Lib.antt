pub mod Giving
pub mod Joining
pub mod Places
pub mod Putting
