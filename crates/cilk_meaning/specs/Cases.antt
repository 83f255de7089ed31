pub mod Expressions
pub mod Instances
pub mod Limits
pub mod Names
pub mod Programs
pub mod Words
