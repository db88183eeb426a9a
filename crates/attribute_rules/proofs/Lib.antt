pub mod AdmittedLemmas
pub mod ContentsLemmas
pub mod FaultLemmas
pub mod KindLemmas
pub mod ValueLemmas
