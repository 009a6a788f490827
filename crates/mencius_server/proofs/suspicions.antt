-- A suspicion starts the right first phases, or is refused for the right cause.
pub mod FirstPhases
pub mod FirstPhaseLoop
pub mod IntervalLeaps
pub mod SuspicionBySlots
pub mod OpenInstances
pub mod SuspicionReach
pub mod RevocationRefusals
