pub mod Lines
pub mod ObservationLines
pub mod BadLines
