pub mod Running
pub mod Executions
pub mod OfTheProgram
pub mod Elided
pub mod Free
pub mod Lone
