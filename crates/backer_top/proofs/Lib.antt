pub mod Dues
pub mod Elided
pub mod Ends
pub mod Naming
pub mod Pieces
pub mod Told
