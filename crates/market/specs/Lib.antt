pub mod Sides
pub mod Prices
pub mod Quotes
pub mod Venues
pub mod Rows
pub mod Refusals
pub mod Reports
