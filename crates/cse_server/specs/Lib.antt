pub mod Attending
pub mod Closing
pub mod Connection
pub mod Outside
pub mod Sending
pub mod Talk
pub mod Together
pub mod Way
