pub mod Announced
pub mod Below
pub mod Codes
pub mod Copies
pub mod Items
pub mod Peers
