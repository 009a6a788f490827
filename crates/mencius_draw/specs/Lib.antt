pub mod Words
pub mod Facts
pub mod Layout
pub mod Places
pub mod Svg
pub mod Picture
pub mod Laws
