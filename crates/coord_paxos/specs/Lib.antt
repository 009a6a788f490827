pub mod SlotState
pub mod Fresh
pub mod Slot
pub mod Reached
pub mod Laws
pub mod CallLaws
pub mod Premises
