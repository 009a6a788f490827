-- The notes about waiting tickets and suggested tickets stay right.
pub mod WaitingTickets
pub mod TicketMarks
pub mod SuggestionCases
