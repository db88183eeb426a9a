pub mod Failing
pub mod Paces
pub mod SendOutcomes
pub mod Spending
pub mod Places
