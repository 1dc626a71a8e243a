pub mod Edits
pub mod Making
pub mod Ranks
pub mod Finding
pub mod Going
pub mod Arriving
pub mod Following
pub mod Gathering
