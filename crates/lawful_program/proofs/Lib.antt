pub mod Clean
pub mod Formed
pub mod Growing
pub mod Keeping
pub mod Ranged
pub mod Uses
