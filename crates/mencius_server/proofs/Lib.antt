pub mod events
pub mod invariant
pub mod tickets
pub mod stored
pub mod intervals
pub mod suspicions
pub mod tallies
