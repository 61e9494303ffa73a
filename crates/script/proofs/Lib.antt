pub mod Places
pub mod Bytes
pub mod ReadBack
pub mod Names
pub mod Understood
