-- The proofs about refused events.
pub mod RefusalClauses
pub mod ServerRefusals
pub mod FullJournal
