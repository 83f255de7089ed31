pub mod Commands
pub mod Completeness
pub mod Numbers
pub mod Parted
pub mod Soundness
pub mod Uniqueness
