-- The invariant of a server holds at all times.
pub mod ServerInvariant
pub mod InvariantKept
pub mod InvariantByCall
pub mod SlotFits
