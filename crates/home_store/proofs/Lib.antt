pub mod Rounds
pub mod Ranges
pub mod Deciding
pub mod Storing
pub mod Merging
pub mod Changing
pub mod First
pub mod Parting
