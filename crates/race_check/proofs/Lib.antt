pub mod Accesses
pub mod Found
pub mod Passing
pub mod Shadowing
