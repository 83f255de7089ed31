pub mod Changing
pub mod Closing
pub mod Coming
pub mod Depositing
pub mod Taking
