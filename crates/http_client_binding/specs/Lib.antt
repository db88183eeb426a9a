pub mod ReplyReading
pub mod TargetWriting
pub mod QueryWriting
pub mod Asking
pub mod Laws
