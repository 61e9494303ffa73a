pub mod Engines
pub mod Turns
pub mod Commands
pub mod Lines
