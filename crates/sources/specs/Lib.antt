pub mod Tapes
pub mod Sources
pub mod Montages
pub mod Views
