pub mod Order
pub mod Front
pub mod Message
pub mod Event
pub mod MessageFront
pub mod Begins
pub mod big
