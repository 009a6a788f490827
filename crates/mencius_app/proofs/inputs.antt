-- Facts about reading an input and about the end of a call.
pub mod Inputs
pub mod TaskEnds
pub mod ArgumentAnswers
pub mod PictureFaults
pub mod CheckedInputs
pub mod LogFaults
