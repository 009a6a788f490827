pub mod Answers
pub mod State
pub mod Submissions
pub mod Tables
pub mod MessageBits
pub mod Inside
pub mod Performed
pub mod Salt
