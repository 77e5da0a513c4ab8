pub mod Delivery
pub mod Emitted
pub mod Framed
pub mod Heard
pub mod Outgoing
pub mod Entries
pub mod Delivering
