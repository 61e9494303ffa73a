pub mod Alone
pub mod Answers
pub mod Places
pub mod Serial
