pub mod MediaTypes
pub mod Methods
pub mod Headers
pub mod Binding
pub mod Seen
pub mod Rooms
pub mod Replying
pub mod Laws
