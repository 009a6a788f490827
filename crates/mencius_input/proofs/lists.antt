-- Lists of texts.
pub mod VersionItems
pub mod ListItems
pub mod EventEntries
pub mod GoodItems
