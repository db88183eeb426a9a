pub mod Forms
pub mod Texts
pub mod Sides
pub mod Twins
