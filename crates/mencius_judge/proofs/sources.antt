-- The first lines with a property, and the numbers of lines that a judge keeps, as the log grows.
pub mod Places
pub mod Grows
pub mod FirstLines
pub mod Gifts
pub mod Missing
pub mod After
