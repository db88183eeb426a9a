mod HomeLemmas
mod OptionLemmas
mod WalkLemmas
mod ProgramLemmas
mod StrayLemmas
