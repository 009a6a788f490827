pub mod Order
pub mod Picks
pub mod Choices
