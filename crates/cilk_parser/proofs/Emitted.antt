-- What was emitted is what the state says.
pub mod Advancing
pub mod AwaitedSteps
pub mod Completed
pub mod ExpressionSteps
pub mod ItemSteps
pub mod Operators
pub mod ReadSound
pub mod SoFar
pub mod StatementSteps
pub mod StepSound
pub mod Valid
