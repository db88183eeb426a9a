pub mod Looks
pub mod Same
pub mod Shown
pub mod StandIns
