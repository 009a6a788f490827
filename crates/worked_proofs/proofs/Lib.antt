pub mod JournalMoments
pub mod HandDeliveries
pub mod OneWorkers
