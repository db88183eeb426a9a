pub mod Entries
pub mod Sizes
pub mod Names
pub mod Here
pub mod Kept
pub mod Form
pub mod Effects
pub mod Asked
