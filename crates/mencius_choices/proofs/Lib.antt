pub mod DrawnWords
pub mod CommandOrder
pub mod ChosenEvents
pub mod WorkedChoices
pub mod WorkerLists
