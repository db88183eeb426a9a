pub mod EndLemmas
pub mod LaterLemmas
pub mod StatusLemmas
