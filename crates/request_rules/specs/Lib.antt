pub mod Asked
pub mod Creation
pub mod Groups
pub mod Judged
pub mod Order
pub mod Policies
pub mod Requests
pub mod Rights
