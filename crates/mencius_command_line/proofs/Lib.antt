pub mod CommandLines
pub mod ArgumentTexts
