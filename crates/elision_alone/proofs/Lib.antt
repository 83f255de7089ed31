pub mod Alone
pub mod Lines
pub mod Prefixes
pub mod RunsAs
pub mod Serving
