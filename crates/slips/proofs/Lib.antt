pub mod Words
pub mod Fitting
pub mod Reading
pub mod Exact
pub mod Loop
