pub mod Lending
pub mod Numbers
pub mod Search
