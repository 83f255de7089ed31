pub mod Replies
pub mod Following
pub mod Serial
pub mod Ending
pub mod Determinate
