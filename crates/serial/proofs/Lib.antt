pub mod Alone
pub mod Places
pub mod Steps
