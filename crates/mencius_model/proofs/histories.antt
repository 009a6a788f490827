-- The histories of the servers.
pub mod Histories
pub mod GrowingHistories
pub mod LongestServer
pub mod LongestGrows
pub mod Moments
