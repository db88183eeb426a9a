pub mod Askers
pub mod Tables
pub mod Known
