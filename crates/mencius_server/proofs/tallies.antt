-- The tally of each server stays right.
pub mod CountsBelow
pub mod OneTally
pub mod InstanceTallies
pub mod SkipTallies
