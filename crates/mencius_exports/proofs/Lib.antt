pub mod CallEnds
pub mod JudgeSteps
pub mod LoosePointers
pub mod StateEnds
pub mod ToldAnswers
