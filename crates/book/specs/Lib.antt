pub mod Calls
pub mod Capacity
pub mod Held
pub mod Opening
