pub mod Laws
pub mod Members
pub mod Onward
pub mod Peers
pub mod Repeating
pub mod SentOn
pub mod Parts
