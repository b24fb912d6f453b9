pub mod Heard
pub mod Sent
pub mod Executed
pub mod Endings
mod Going
mod Readying
mod Querying
mod RowSteps
mod LoadSteps
mod ReadSteps
mod GatherSteps
mod LoadEnds
mod CursorSteps
mod CursorLaws
