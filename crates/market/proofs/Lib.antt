pub mod Outranking
