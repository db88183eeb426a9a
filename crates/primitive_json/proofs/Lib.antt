pub mod KindLemmas
pub mod FaultLemmas
pub mod FormLemmas
pub mod RoundTrip
pub mod ReplyLemmas
pub mod KeptLemmas
