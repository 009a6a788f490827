-- Facts that hold in every reached trace.
pub mod Senders
pub mod Suggesters
pub mod FrontOwners
pub mod BetaZero
pub mod MessageLimits
pub mod LearnedLimits
pub mod Rounds
pub mod WithinLimits
pub mod HeardWasSent
pub mod OwnBallots
pub mod ServerFacts
pub mod ClusterFacts
pub mod LedBallots
