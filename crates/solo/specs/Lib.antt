pub mod History
pub mod Rules
pub mod View
