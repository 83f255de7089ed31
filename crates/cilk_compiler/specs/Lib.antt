pub mod Emitting
pub mod Globals
pub mod Jumps
pub mod Joins
pub mod Numbering
pub mod Scopes
