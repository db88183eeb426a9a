pub mod KinRows
pub mod Overdue
pub mod Seeded
pub mod Slots
pub mod Store
