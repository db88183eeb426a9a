pub mod AsRead
pub mod ReadBack
pub mod OneMessage
pub mod Telling
