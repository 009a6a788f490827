-- The fields of an object.
pub mod NamedFields
pub mod SharedFields
pub mod ScenarioFields
pub mod RunFields
pub mod NameOrder
