pub mod ShownEntries
pub mod LongestCopy
pub mod SteppedBoard
pub mod BoardInvariant
pub mod logs
pub mod runs
