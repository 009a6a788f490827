-- Reading a log.
pub mod QuotedLines
pub mod TakenLines
pub mod LogEnds
pub mod WrittenLines
