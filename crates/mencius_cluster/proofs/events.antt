-- The proofs about accepted events.
pub mod AcceptedEvents
pub mod TablesAfterEvents
pub mod ServerParts
pub mod Deliveries
pub mod SubmittedRows
pub mod SubmissionFields
pub mod Executions
pub mod ExecutionFields
pub mod IdleExecutors
pub mod StoredJournal
pub mod EventLists
