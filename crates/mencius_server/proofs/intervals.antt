-- Facts about intervals of skipped instances.
pub mod RisingIntervals
pub mod IntervalCounts
pub mod NewIntervals
