-- The reasons why only one value is decided at an instance, and why a ticket is decided at only one instance.
pub mod Paxos
pub mod SixFacts
pub mod Decisions
pub mod Tickets
pub mod SentOnce
