pub mod Gathering
pub mod Numerals
pub mod Words
