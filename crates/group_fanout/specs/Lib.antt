pub mod Rights
pub mod Operations
pub mod Fan
