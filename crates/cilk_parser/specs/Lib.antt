pub mod Contexts
pub mod Faults
pub mod Phrases
pub mod Run
pub mod Spots
pub mod Starts
pub mod Steps
pub mod Tally
