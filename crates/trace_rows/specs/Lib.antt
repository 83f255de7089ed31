pub mod RunAs
