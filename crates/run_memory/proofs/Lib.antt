pub mod LastOnes
pub mod Left
pub mod RunMemory
