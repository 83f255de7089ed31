pub mod Ends
pub mod Instances
pub mod Laws
