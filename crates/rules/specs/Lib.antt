pub mod Lines
pub mod Trading
pub mod Arrival
pub mod Repricing
pub mod Figures
