pub mod JsonTexts
pub mod Stops
pub mod lists
pub mod objects
pub mod mistakes
