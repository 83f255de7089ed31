pub mod Log
pub mod Moments
pub mod Rules
pub mod HomeOrder
pub mod HomeList
pub mod Edges
pub mod Ready
pub mod Dag
