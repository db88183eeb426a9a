pub mod NamingLemmas
pub mod PeerLemmas
pub mod BelowLemmas
