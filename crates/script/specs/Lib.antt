pub mod Cuts
pub mod Lines
pub mod Escapes
pub mod Commands
pub mod Led
