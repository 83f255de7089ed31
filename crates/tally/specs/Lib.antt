pub mod Has
pub mod Last
