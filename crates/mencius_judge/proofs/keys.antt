-- The texts that keys held.
pub mod Periods
pub mod Changes
pub mod TextMaps
