pub mod GrownTexts
