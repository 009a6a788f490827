pub mod events
pub mod refusals
pub mod tables
