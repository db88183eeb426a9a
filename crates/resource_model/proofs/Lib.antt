pub mod AttributeLemmas
pub mod HomeLemmas
