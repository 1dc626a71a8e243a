pub mod Events
pub mod Rank
pub mod Trade
pub mod Formed
