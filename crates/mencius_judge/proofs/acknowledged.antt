-- The acknowledged commands, and which of them are in a history.
pub mod FirstReplies
pub mod ReplyLines
pub mod SettledCounts
pub mod OpenReplies
pub mod SettleLines
pub mod ReplyVerdicts
