pub mod Originators
pub mod Rules
pub mod Rights
pub mod Forms
