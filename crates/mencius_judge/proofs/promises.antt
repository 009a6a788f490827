-- The facts about logs that keep their promises, and about logs that break them.
pub mod Identities
pub mod Logs
pub mod Floors
pub mod Empty
pub mod Kept
pub mod Broken
pub mod Counted
