pub mod Options
pub mod Command
pub mod Line
pub mod Program
pub mod Reading
