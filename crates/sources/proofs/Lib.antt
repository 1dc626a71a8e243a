pub mod BestPrice
pub mod Tables
pub mod StayFormed
