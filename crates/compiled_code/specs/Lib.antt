pub mod Carries
pub mod Emitted
pub mod Laws
pub mod Safe
pub mod WellFormed
