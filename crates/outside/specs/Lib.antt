pub mod Device
pub mod MemShelf
pub mod MemSink
pub mod RealShelf
pub mod Shelf
