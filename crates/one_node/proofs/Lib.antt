pub mod Home
pub mod Lasts
pub mod Stacks
pub mod Lockstep
pub mod Alone
