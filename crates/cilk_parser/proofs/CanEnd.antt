-- Each state can be brought to an end.
pub mod Ends
pub mod Harmless
