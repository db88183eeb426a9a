pub mod Plain
pub mod Joins
pub mod Sending
pub mod Serving
