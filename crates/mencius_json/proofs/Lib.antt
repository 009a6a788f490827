pub mod Conversions
pub mod NextValues
pub mod TokenKinds
pub mod FirstTokens
pub mod Counts
pub mod Columns
