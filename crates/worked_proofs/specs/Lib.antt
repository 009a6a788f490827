pub mod Hands
pub mod OneWorker
pub mod HistoriesAcross
