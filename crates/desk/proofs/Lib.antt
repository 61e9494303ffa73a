pub mod Kept
pub mod Starts
