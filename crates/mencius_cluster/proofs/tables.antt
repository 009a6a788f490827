-- The proofs about the tables of a cluster.
pub mod NewCluster
pub mod SpareRoom
pub mod ServerRows
pub mod LearnedSlots
pub mod RowCounts
pub mod MapRows
pub mod CommandLookups
pub mod LossMasks
