pub mod observations
pub mod promises
pub mod keys
pub mod lines
pub mod theorems
pub mod sources
pub mod acknowledged
pub mod quoting
