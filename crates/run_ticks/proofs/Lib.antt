pub mod Waiting
pub mod Ticking
pub mod Asked
pub mod Logs
pub mod Someone
pub mod Returned
pub mod Quiet
pub mod Runs
