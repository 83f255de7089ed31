pub mod Stack
pub mod Shown
pub mod Standing
pub mod Starting
pub mod Stepping
pub mod Lasting
