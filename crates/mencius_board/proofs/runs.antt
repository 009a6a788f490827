-- The proofs about workers and their turns.
pub mod WorkerTurns
pub mod WorkerEnds
pub mod JoinedWorkers
pub mod RunSteps
