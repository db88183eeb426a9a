pub mod StandInLemmas
pub mod SeenLemmas
