-- How the quotes of a violation grow, and which lines they are.
pub mod Inserted
pub mod Steps
pub mod Tables
pub mod Fronts
pub mod LastChanges
pub mod Reasons
pub mod Whole
