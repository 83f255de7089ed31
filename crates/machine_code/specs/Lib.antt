pub mod Cases
pub mod Early
pub mod Machine
pub mod StandsFor
pub mod Valid
