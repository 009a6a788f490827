pub mod Passes
pub mod LastCalls
pub mod ShapeLists
pub mod Needed
pub mod Escapes
pub mod Rising
