-- The first place that has a fault.
pub mod FaultPlaces
pub mod PlacedNames
pub mod PlacedFields
pub mod PlacedFaults
