-- The calls of a server, described by its state, have the effects of the model's events.
pub mod ServerTrace
pub mod SubmissionEvents
pub mod SuspicionEvents
pub mod HeardMessages
pub mod HeardKinds
pub mod HeardSkip
pub mod WaitingByTrace
pub mod OtherServers
pub mod Isolation
pub mod Addresses
pub mod NewServer
