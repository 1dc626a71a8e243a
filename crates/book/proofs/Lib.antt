pub mod Amending
pub mod Totals
