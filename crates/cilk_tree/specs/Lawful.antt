-- Which programs are lawful, and with what the others are refused.
pub mod Flow
pub mod Lawful
pub mod Pending
pub mod Place
pub mod Rules
pub mod Scope
