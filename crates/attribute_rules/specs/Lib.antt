pub mod Admission
pub mod Contents
pub mod Kinds
pub mod Laws
pub mod Table
