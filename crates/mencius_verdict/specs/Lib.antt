pub mod VerdictLines
pub mod Sentences
pub mod VerdictJson
