pub mod Replies
pub mod Asking
pub mod Rule
pub mod Answering
