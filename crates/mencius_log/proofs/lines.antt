-- Cutting a log into lines, and reading and writing a line.
pub mod CutLines
pub mod IdentityWords
pub mod LineWords
pub mod ReadTexts
