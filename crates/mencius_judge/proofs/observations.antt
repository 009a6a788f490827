-- The verdict of a judge on each kind of observation.
pub mod RowSteps
pub mod HistorySteps
pub mod OrderSteps
pub mod Steps
pub mod Quiet
pub mod QuietSteps
pub mod Submits
pub mod Leads
pub mod Answered
