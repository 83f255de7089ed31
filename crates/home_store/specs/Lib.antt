pub mod Home
pub mod Places
