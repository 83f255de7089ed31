pub mod Laws
pub mod Tracing
