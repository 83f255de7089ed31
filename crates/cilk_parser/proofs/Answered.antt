-- The answer is the definition's.
pub mod Answers
pub mod Faults
pub mod Offsets
pub mod Parsed
pub mod Places
pub mod Verdicts
