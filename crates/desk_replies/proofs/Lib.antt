pub mod LinkLemmas
pub mod RepliesLemmas
pub mod AskingLemmas
pub mod PlainLemmas
pub mod ValuesSent
pub mod Sent
