pub mod Next
pub mod Stops
pub mod Crowds
