pub mod Canon
pub mod FaultTexts
pub mod Forms
pub mod Listed
pub mod Reads
pub mod Wrong
