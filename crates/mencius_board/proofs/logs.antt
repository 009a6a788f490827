-- The proofs about the steps of a log.
pub mod LogEnds
pub mod LogExchange
pub mod LogSteps
pub mod ListSteps
