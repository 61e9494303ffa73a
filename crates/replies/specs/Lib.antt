pub mod Replies
pub mod Totals
pub mod Texts
