pub mod Silent
pub mod Positions
pub mod Depth
pub mod Runs
pub mod Logs
