pub mod Remote
pub mod Wide
pub mod Asking
