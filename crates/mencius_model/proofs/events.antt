-- The effects of an event.
pub mod EventLines
pub mod LineServers
pub mod TeachesNothing
pub mod RefusalCauses
pub mod Outcomes
pub mod JournalCounts
