-- Facts about the texts that tasks write.
pub mod EventTexts
pub mod KeptEvents
pub mod JoinedTexts
