-- Judging late is judging at once.
pub mod Judging
pub mod Limits
pub mod Outcomes
