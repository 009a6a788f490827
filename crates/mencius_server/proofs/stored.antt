-- The stored slots and the skipped intervals contain the knowledge about each instance.
pub mod StoredInstances
pub mod SkipStored
pub mod SkipFromOutside
pub mod SkippedSlot
pub mod SkipLoop
pub mod IntervalLoops
pub mod InstanceGaps
