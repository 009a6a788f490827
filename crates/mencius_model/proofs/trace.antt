-- Lists, the lines of a trace, and the results of questions about a trace.
pub mod Lists
pub mod Prefixes
pub mod NumberLists
pub mod OneMoreLine
pub mod AnswersLast
pub mod QuietLines
pub mod ServerSets
pub mod Reports
pub mod Parts
