pub mod Depositing
pub mod Moving
pub mod Blocks
pub mod Fitting
