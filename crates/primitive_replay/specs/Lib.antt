pub mod Front
pub mod Lines
pub mod Stream
pub mod Requests
pub mod Together
pub mod Script
pub mod Way
pub mod Laws
