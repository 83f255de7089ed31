pub mod Acting
pub mod Elisions
pub mod Growth
pub mod Histories
pub mod Replay
pub mod Simulation
pub mod Twins
