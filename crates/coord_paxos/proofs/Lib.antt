pub mod SlotTrace
pub mod Repeats
pub mod SlotLaws
pub mod ReachedTraces
