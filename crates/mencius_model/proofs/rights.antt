-- Each line of a reached trace was allowed when it was added.
pub mod LineRights
pub mod EventRights
pub mod EachLine
pub mod Journals
