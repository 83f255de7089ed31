pub mod Deep
pub mod Alone
