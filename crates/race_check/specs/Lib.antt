pub mod Access
pub mod Shadow
